use Rattle.std.proofs.Common.{rules, ◌≡◌, ◌≤ℤ◌, w32, SFits, to_z-of_z, length, get_or, pos, All}
use Rattle.std.specs.List.{Contains}
use Rattle.cutting_rule.proofs.Ends.{ends, three}
use Rattle.cutting_rule.proofs.bounds.ends_of.Goals as goal

pub returns : goal.returns
returns c =
    let vs = c.args.values in
    let long : length vs ≡ 3 = search rules in
    let l : SFits w32 c.least.result = search rules in
    let h : SFits w32 c.greatest.result = search rules in
    let fits_0 : SFits w32 (get_or vs 0 (pos 0)) = search rules in
    let fits_1 : SFits w32 (get_or vs 1 (pos 0)) = search rules in
    let fits_2 : SFits w32 (get_or vs 2 (pos 0)) = search rules in
    ends c.least.result c.greatest.result vs _ _ (to_z-of_z l) (to_z-of_z h)
    (three (λ vs. Contains vs c.least.result) vs _ _ _ long (to_z-of_z fits_0) (to_z-of_z fits_1) (to_z-of_z fits_2) c.least.ensures.among)
    (three (λ vs. All (λ v. c.least.result ≤ℤ v) vs) vs _ _ _ long (to_z-of_z fits_0) (to_z-of_z fits_1) (to_z-of_z fits_2) c.least.ensures.least)
    (three (λ vs. Contains vs c.greatest.result) vs _ _ _ long (to_z-of_z fits_0) (to_z-of_z fits_1) (to_z-of_z fits_2) c.greatest.ensures.among)
    (three (λ vs. All (λ v. v ≤ℤ c.greatest.result) vs) vs _ _ _ long (to_z-of_z fits_0) (to_z-of_z fits_1) (to_z-of_z fits_2) c.greatest.ensures.greatest)
