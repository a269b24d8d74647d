use Rattle.std.proofs.Common.{ℕ, subst}
use Rattle.mesh_store.specs.Parts.{live_tets}
use Rattle.improve.specs.declared.kind.Kind.{Kind}
use Rattle.improve.specs.Listing.{HasSameLowest, candidates_at}
use Rattle.improve.proofs.listed.list_at.Goals as goal

pub returns-then-is_listed-clause-tries : goal.returns-then-is_listed-clause-tries
returns-then-is_listed-clause-tries c =
    let t = c.if-is_listed.true in
    let tets = live_tets c.args.slots.now.slots in
    let tries = c.args.listed.now.tries.items in
    subst (λ (p : ℕ). HasSameLowest tries (candidates_at tets c.args.kind p)) (c.is_listed.ensures.point t)
    (subst (λ (k : Kind). HasSameLowest tries (candidates_at tets k c.args.listed.now.point)) (c.is_listed.ensures.kind t) (c.requires (c.is_listed.ensures.current t)))
