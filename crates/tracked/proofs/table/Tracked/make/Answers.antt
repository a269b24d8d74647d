use Rattle.std.proofs.Common.{◌≡◌, ◌+◌, ◌<◌, ◌^◌, length, get_or, rules, subst, sym}
use Rattle.tracked.specs.Keys.{Keys}
use Rattle.tracked.specs.Places.{IsIndexed}
use Rattle.tracked.proofs.KeyFacts.{IsTriple-from}
use Rattle.tracked.proofs.IndexLemmas.{indexed-new}
use Rattle.tracked.proofs.table.Tracked.make.Goals as goal
use Rattle.grid.proofs.ForCallers.{AreDifferent-Rises}

pub enter-requires : goal.enter-requires
enter-requires c = AreDifferent-Rises c.args.f.0 c.requires.rises

pub leave_last-requires : goal.leave_last-requires
leave_last-requires c = AreDifferent-Rises c.args.f.0 c.requires.rises

pub invariant_of-self-in-Ok : goal.invariant_of-self-in-Ok
invariant_of-self-in-Ok c =
    let three : length c.args.f.0 ≡ 3 = search rules in
    let first : get_or c.args.f.0 0 0 < 2 ^ 32 = search rules in
    let second : get_or c.args.f.0 1 0 < 2 ^ 32 = search rules in
    let third : get_or c.args.f.0 2 0 < 2 ^ 32 = search rules in
    let place : c.keys-place.result ≡ length c.self.inside.keys.entries = search rules in
    let room : c.keys-place.result + 1 < 2 ^ 32 = search rules in
    subst (λ (keys : Keys). IsIndexed keys c.enter.new.index) (sym c.in-Ok.ensures.entries)
    (indexed-new c.args.f c.keys-place.result c.self.inside.keys.entries c.self.inside.index c.enter.new.index (search rules) place room (IsTriple-from c.args.f.0 three c.requires.rises first second third) c.in_ok-enter.ensures.ok c.self.invariant)
