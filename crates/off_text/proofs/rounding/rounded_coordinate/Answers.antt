use Rattle.std.proofs.Common.{◌≡◌, ℕ, ◌*◌, ◌^◌, ◌≤◌, List, [], ◌∷◌, refl, ℤ, pos, ◌+ℤ◌, ◌-ℤ◌, length, sym, ap, ap₂, ◌∙◌, subst, arith, to_z, to_z-of_z, w64, SFits}
use mir.Syntax.{w128}
use Rattle.std.proofs.Math.Facts.{to_z_pos}
use Rattle.int_algebra.specs.Within.{IsWithin}
use Rattle.int_algebra.proofs.Bounds.{AreWithin, within_cast}
use Rattle.int_algebra.proofs.Kept.{Code, variable, ◌⊕◌, ◌⊖◌, kept, kept-value, fits_code}
use Rattle.off_text.specs.Numbers.{Parts, parts_of, with_sign, without_sign}
use Rattle.off_text.specs.Rounding.{exponent_of}
use Rattle.off_text.specs.Cut.{cut}
use Rattle.off_text.specs.PartsView.{parts_view}
use Rattle.off_text.proofs.Rounded.{short_parts, rounded_is, cut_within}
use Rattle.off_text.proofs.rounding.rounded_coordinate.Goals as goal

abbrev difference : Code
difference = kept w64 (variable 0) ⊖ variable 1

abbrev total : Code
total = kept w64 difference ⊕ kept w64 (variable 2)

abbrev bounds : List ℕ
bounds = 2 * 10 ^ 9 ∷ 32 ∷ 5 ∷ []

abbrev values : ℤ → ℕ → ℤ → List ℤ
values g f d = g ∷ to_z w64 f ∷ d ∷ []

all_in : (g e z : ℤ) (f d : ℕ) → g ≡ cut e → f ≤ 32 → z ≡ pos d → d ≤ 5 → AreWithin bounds (values g f z)
all_in g e z f d g_is few z_is small = (
  subst (IsWithin (2 * 10 ^ 9)) (sym g_is) (cut_within e),
  (within_cast w64 32 f few (omega (arith, few)), (subst (IsWithin 5) (sym z_is) (record { within = small }), tt)),
)

few_behind : (word : List ℕ) (p : Parts) → p ≡ parts_of (without_sign word) → length word ≤ 32 → length p.fraction ≤ 32
few_behind word p is few = omega (arith, (short_parts word p is few).few)

pub mantissa-requires : goal.mantissa-requires
mantissa-requires c = short_parts c.args.word.now (parts_view c.parts_of-parts.result) (c.parts_of-parts.ensures ∙ ap parts_of c.without_sign.ensures) c.if-word-gt-MOST_BYTES.false

pub overflow_sub-power : goal.overflow_sub-power
overflow_sub-power c =
    let few = few_behind c.args.word.now (parts_view c.parts_of-parts.result) (c.parts_of-parts.ensures ∙ ap parts_of c.without_sign.ensures) c.if-word-gt-MOST_BYTES.false in
    fits_code bounds (values c.exponent.result (length c.parts_of-parts.result.fraction.now) (pos c.args.digits)) (all_in c.exponent.result (exponent_of c.parts_of-parts.result.rest.now) (pos c.args.digits) (length c.parts_of-parts.result.fraction.now) c.args.digits c.exponent.ensures few refl c.requires) w64 difference tt

pub overflow_add-power : goal.overflow_add-power
overflow_add-power c =
    let few = few_behind c.args.word.now (parts_view c.parts_of-parts.result) (c.parts_of-parts.ensures ∙ ap parts_of c.without_sign.ensures) c.if-word-gt-MOST_BYTES.false in
    fits_code bounds (values c.exponent.result (length c.parts_of-parts.result.fraction.now) c.from.result) (all_in c.exponent.result (exponent_of c.parts_of-parts.result.rest.now) c.from.result (length c.parts_of-parts.result.fraction.now) c.args.digits c.exponent.ensures few c.from.ensures c.requires) w64 total tt

pub returns : goal.returns
returns c =
    let is = c.parts_of-parts.ensures ∙ ap parts_of c.without_sign.ensures in
    let few = few_behind c.args.word.now (parts_view c.parts_of-parts.result) is c.if-word-gt-MOST_BYTES.false in
    let length_is = to_z_pos w64 {n = length c.parts_of-parts.result.fraction.now} (omega (arith, few)) in
    let fits : SFits w128 c.with_sign-m.result = record { sfits = c.with_sign-m.type_inv } in
    let m_is = to_z-of_z fits ∙ c.with_sign-m.ensures.value ∙ ap₂ with_sign c.is_negative.ensures c.mantissa.ensures.value in
    let x_is =
    kept-value bounds (values c.exponent.result (length c.parts_of-parts.result.fraction.now) c.from.result) (all_in c.exponent.result (exponent_of c.parts_of-parts.result.rest.now) c.from.result (length c.parts_of-parts.result.fraction.now) c.args.digits c.exponent.ensures few c.from.ensures c.requires) (kept w64 total) tt
    ∙ (λ i. (c.exponent.ensures i -ℤ length_is i) +ℤ c.from.ensures i) in
    c.scale.ensures
    ∙ rounded_is c.args.digits c.args.word.now (parts_view c.parts_of-parts.result) _ _ is c.if-word-gt-MOST_BYTES.false (sym c.is_well_formed.ensures ∙ c.if-not-is_well_formed.false) c.requires m_is x_is
