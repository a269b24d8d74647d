-- What the tests of the code say of an answer.
use Rattle.std.proofs.Common.{◌≡◌, ℕ, Bool, true, false, Option, None, Some, IfSome, IfNone, is_some, ◌↔◌, subst, sym, ◌∙◌, T}

pub some_near : (P : ℕ → Type 0) (found : Option ℕ) (b : Bool) → IfSome found P → b ≡ is_some found → b ≡ true → (t : ℕ) × P t
some_near P None b h e t = absurd (subst T (sym t ∙ e) tt)
some_near P (Some n) b h e t = (n, h)

pub none_near : (Q : Type 0) (found : Option ℕ) (b : Bool) → IfNone found Q → b ≡ is_some found → b ≡ false → Q
none_near Q None b h e t = h
none_near Q (Some n) b h e t = absurd (subst T (sym e ∙ t) tt)

pub never : {C : Type 0} (b : Bool) → b ≡ false → (b ≡ true) ↔ C → C → ⊥
never b e h c = subst T (sym (h.1 c) ∙ e) tt
