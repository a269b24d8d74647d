use Rattle.std.proofs.Common.{sym, ◌∙◌, ◌≤◌, subst}
use Rattle.soup.specs.declared.raw.Raw.{Raw}
use Rattle.soup.specs.Limits.{IsRaw}
use Rattle.soup.specs.Placement.{extent}
use Rattle.soup.specs.HeightField.{height_field}
use Rattle.soup.proofs.Heights.{height_field-IsRaw, height_field_extent}
use Rattle.soup.proofs.terrain.height_field.Goals as goal

pub returns-clause-is : goal.returns-clause-is
unfolding height_field
returns-clause-is c =
    let v = c.from_vec.ensures ∙ c.in_ok-vertices.ensures in
    let f = c.from_vec-2.ensures ∙ c.in_ok-faces.ensures in
    λ i. record { vertices = v i; faces = f i }

pub returns-clause-limits : goal.returns-clause-limits
returns-clause-limits c = subst IsRaw (sym (returns-clause-is c)) (height_field-IsRaw c.args.k c.args.seed c.requires.most)

pub returns-clause-extent : goal.returns-clause-extent
returns-clause-extent c = subst (λ (raw : Raw). extent raw ≤ 256) (sym (returns-clause-is c)) (height_field_extent c.args.k c.args.seed c.requires.most)
