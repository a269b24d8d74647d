use Rattle.std.proofs.Common.{rules, ◌≡◌, ◌∙◌, ◌+◌, ◌*◌, w32, SFits, to_z-of_z, ap, subst, sym, IsBitSet, ◌↔◌}
use Rattle.grid.specs.SideBits.{bit_of, side_bits}
use Rattle.grid.specs.Boxes.{IsOn}
use Rattle.grid.proofs.SideLemmas.{side_bits-ends, side_bits-IsOn}
use Rattle.grid.proofs.boxes.sides.Goals as goal

is : (c : goal.After-both_ends-3) → c.both_ends.result + 4 * c.both_ends-2.result + 16 * c.both_ends-3.result ≡ side_bits c.args.side c.args.p
is c =
    let x : SFits w32 c.args.p.x = search rules in
    let y : SFits w32 c.args.p.y = search rules in
    let z : SFits w32 c.args.p.z = search rules in
    let s : SFits w32 c.args.side = search rules in
    side_bits-ends c.args.p c.args.side _ _ _ _ _ _ _ (to_z-of_z x) (to_z-of_z y) (to_z-of_z z) (to_z-of_z s) c.both_ends.ensures.value c.both_ends-2.ensures.value c.both_ends-3.ensures.value

pub returns-clause-value : goal.returns-clause-value
returns-clause-value c = is c

pub returns-clause-bits : goal.returns-clause-bits
returns-clause-bits c = λ l s e. subst (λ n. IsBitSet n (bit_of s) ↔ IsOn l s c.args.p) (sym (is c ∙ ap (λ z. side_bits z c.args.p) e)) (side_bits-IsOn l c.args.p s)
