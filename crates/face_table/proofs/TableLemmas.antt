-- The faces of a table by its entries.
use Rattle.std.proofs.Common.{◌≡◌, ℕ, ◌+◌, ◌*◌, Bool, true, false, cond, Option, None, Some, List, [], ◌∷◌, ◌++◌, replicate, length, refl, ap, sym, ◌∙◌, subst, inl, inr, arith}
use Rattle.std.specs.Prelude.{unwrap_or}
use Rattle.std.specs.Map.{lookup}
use Rattle.std.proofs.lemmas.Bool.{cases_Bool, both_ways}
use Rattle.std.proofs.lemmas.List.Folds.{sum_by-replicate}
use Rattle.std.proofs.lemmas.Slice.Eq.{bytes_eq-Decides}
use Rattle.indexmap.specs.IndexMap.{insert_entry}
use Rattle.grid.specs.declared.shapes.Face.{Face}
use Rattle.grid.specs.Simplices.{is_rotation, same_triple}
use Rattle.face_table.specs.Keys.{least_rotation, same_key, faces_of, AreKeys}
use Rattle.face_table.specs.Occurrences.{occurrences, HaveSameFaces}
use Rattle.face_table.proofs.LeastLemmas.{least-same, least-rotation, least-again}
use Rattle.face_table.proofs.RotationLemmas.{rotation-of, rotation-same_right, occurrences-append, occurrences-push}

-- ---- keys
same_key-is : (f g : Face) → same_key f g ≡ true → f.0 ≡ g.0
same_key-is f g e = (bytes_eq-Decides f.0 g.0).0 e

same_key-from : (f g : Face) → f.0 ≡ g.0 → same_key f g ≡ true
same_key-from f g e = (bytes_eq-Decides f.0 g.0).1 e

same_key-sym_false : (f g : Face) → same_key f g ≡ false → same_key g f ≡ false
same_key-sym_false f g e = elim (cases_Bool (same_key g f)) [
  | inl h ↦ absurd (both_ways (same_key f g) e (same_key-from f g (sym (same_key-is g f h))))
  | inr h ↦ h
]

module _ (k : Face) (v : ℕ) where
  lookup-insert_other : (q : Face) → same_key q k ≡ false → (es : List (Face × ℕ)) → lookup (same_key q) (insert_entry same_key es k v) ≡ lookup (same_key q) es
  lookup-insert_other q h [] = ap (λ b. cond b (Some v) None) h
  lookup-insert_other q h (e ∷ es) = by (lookup-insert_other q h es) (same_key k e.0) refl
    where
      by : lookup (same_key q) (insert_entry same_key es k v) ≡ lookup (same_key q) es → (b : Bool) → same_key k e.0 ≡ b → lookup (same_key q) (cond b ((e.0, v) ∷ es) (e ∷ insert_entry same_key es k v)) ≡ lookup (same_key q) (e ∷ es)
      by rest true s =
          let no : same_key q e.0 ≡ false = ap (λ l. same_triple q.0 l) (sym (same_key-is k e.0 s)) ∙ h in
          ap (λ b. cond b (Some v) (lookup (same_key q) es)) no ∙ sym (ap (λ b. cond b (Some e.1) (lookup (same_key q) es)) no)
      by rest false s = ap (λ r. cond (same_key q e.0) (Some e.1) r) rest

  -- an entry of a least rotation keeps the keys
  pub AreKeys-insert : least_rotation k.0 ≡ k.0 → (es : List (Face × ℕ)) → AreKeys es → AreKeys (insert_entry same_key es k v)
  AreKeys-insert l [] h = (l, refl, tt)
  AreKeys-insert l (e ∷ es) h = by (AreKeys-insert l es h.2) (same_key k e.0) refl
    where
      by : AreKeys (insert_entry same_key es k v) → (b : Bool) → same_key k e.0 ≡ b → AreKeys (cond b ((e.0, v) ∷ es) (e ∷ insert_entry same_key es k v))
      by rest true s = h
      by rest false s = (h.0, lookup-insert_other e.0 (same_key-sym_false k e.0 s) es ∙ h.1, rest)

  -- the second of two values of a key stays
  pub insert_entry-again : (w : ℕ) (es : List (Face × ℕ)) → insert_entry same_key (insert_entry same_key es k w) k v ≡ insert_entry same_key es k v
  insert_entry-again w [] = ap (λ b. cond b ((k, v) ∷ []) ((k, w) ∷ (k, v) ∷ [])) (same_key-from k k refl)
  insert_entry-again w (e ∷ es) = by (insert_entry-again w es) (same_key k e.0) refl
    where
      by : insert_entry same_key (insert_entry same_key es k w) k v ≡ insert_entry same_key es k v → (b : Bool) → same_key k e.0 ≡ b → insert_entry same_key (cond b ((e.0, w) ∷ es) (e ∷ insert_entry same_key es k w)) k v ≡ cond b ((e.0, v) ∷ es) (e ∷ insert_entry same_key es k v)
      by rest true s = ap (λ b. cond b ((e.0, v) ∷ es) ((e.0, w) ∷ insert_entry same_key es k v)) s
      by rest false s = ap (λ b. cond b ((e.0, v) ∷ insert_entry same_key es k w) (e ∷ insert_entry same_key (insert_entry same_key es k w) k v)) s ∙ ap (λ xs. e ∷ xs) rest

-- ---- counts
occurrences-cons : (f : List ℕ) (e : Face × ℕ) (es : List (Face × ℕ)) → occurrences f (faces_of (e ∷ es)) ≡ e.1 * cond (is_rotation f e.0.0) 1 0 + occurrences f (faces_of es)
occurrences-cons f e es = occurrences-append f (replicate e.1 e.0.0) (faces_of es) ∙ ap (λ n. n + occurrences f (faces_of es)) (sum_by-replicate (λ g. cond (is_rotation f g) 1 0) e.1 e.0.0)

-- one more of a key is one more of its face
pub occurrences-insert : (f : List ℕ) (k : Face) (es : List (Face × ℕ))
    → occurrences f (faces_of (insert_entry same_key es k (unwrap_or (lookup (same_key k) es) 0 + 1))) ≡ occurrences f (faces_of es) + cond (is_rotation f k.0) 1 0
occurrences-insert f k [] = omega (arith, occurrences-cons f (k, 1) [])
occurrences-insert f k (e ∷ es) = by (occurrences-insert f k es) (same_key k e.0) refl
  where
    by : occurrences f (faces_of (insert_entry same_key es k (unwrap_or (lookup (same_key k) es) 0 + 1))) ≡ occurrences f (faces_of es) + cond (is_rotation f k.0) 1 0 → (b : Bool) → same_key k e.0 ≡ b
        → occurrences f (faces_of (cond b ((e.0, unwrap_or (cond b (Some e.1) (lookup (same_key k) es)) 0 + 1) ∷ es) (e ∷ insert_entry same_key es k (unwrap_or (cond b (Some e.1) (lookup (same_key k) es)) 0 + 1))))
        ≡ occurrences f (faces_of (e ∷ es)) + cond (is_rotation f k.0) 1 0
    by rest true s =
        let same : cond {A = ℕ} (is_rotation f e.0.0) 1 0 ≡ cond (is_rotation f k.0) 1 0 = ap (λ l. cond (is_rotation f l) 1 0) (sym (same_key-is k e.0 s)) in
        omega (arith, occurrences-cons f (e.0, e.1 + 1) es, occurrences-cons f e es, same)
    by rest false s = omega (arith, occurrences-cons f e (insert_entry same_key es k (unwrap_or (lookup (same_key k) es) 0 + 1)), occurrences-cons f e es, rest)

-- the count of its least rotation is how often a face occurs
pub occurrences-lookup : (f : List ℕ) (k : Face) → k.0 ≡ least_rotation f → is_rotation f k.0 ≡ true → (es : List (Face × ℕ)) → AreKeys es → unwrap_or (lookup (same_key k) es) 0 ≡ occurrences f (faces_of es)
occurrences-lookup f k l r [] h = refl
occurrences-lookup f k l r (e ∷ es) h = by (occurrences-lookup f k l r es h.2) (same_key k e.0) refl
  where
    by : unwrap_or (lookup (same_key k) es) 0 ≡ occurrences f (faces_of es) → (b : Bool) → same_key k e.0 ≡ b → unwrap_or (cond b (Some e.1) (lookup (same_key k) es)) 0 ≡ occurrences f (faces_of (e ∷ es))
    by rest true s =
        let same = same_key-is k e.0 s in
        let yes : cond {A = ℕ} (is_rotation f e.0.0) 1 0 ≡ 1 = ap (λ m. cond (is_rotation f m) 1 0) (sym same) ∙ ap (λ b. cond b 1 0) r in
        let none : unwrap_or (lookup (same_key k) es) 0 ≡ 0 = ap (λ m. unwrap_or (lookup (λ (q : Face). same_triple m q.0) es) 0) same ∙ ap (λ (o : Option ℕ). unwrap_or o 0) h.1 in
        omega (arith, occurrences-cons f e es, ap (λ m. e.1 * m) yes, none, rest)
    by rest false s =
        let no : is_rotation f e.0.0 ≡ false = elim (cases_Bool (is_rotation f e.0.0)) [
          | inl t ↦ absurd (both_ways (same_key k e.0) s (same_key-from k e.0 (l ∙ least-of t)))
          | inr t ↦ t
        ] in
        let none : cond {A = ℕ} (is_rotation f e.0.0) 1 0 ≡ 0 = ap (λ b. cond b 1 0) no in
        omega (arith, occurrences-cons f e es, ap (λ m. e.1 * m) none, rest)
      where
        least-of : is_rotation f e.0.0 ≡ true → least_rotation f ≡ e.0.0
        least-of t =
            let o = rotation-of f e.0.0 t in
            least-same f o.a o.b o.c (subst (λ g. is_rotation f g ≡ true) o.is t) ∙ ap least_rotation (sym o.is) ∙ h.0

-- ---- the key of a face
module _ (f : List ℕ) (k : Face) (l : k.0 ≡ least_rotation f) (three : length f ≡ 3) where
  rotation-key : is_rotation f k.0 ≡ true
  rotation-key = subst (λ g. is_rotation f g ≡ true) (sym l) (least-rotation f three)

  pub occurrences-least : (es : List (Face × ℕ)) → AreKeys es → unwrap_or (lookup (same_key k) es) 0 ≡ occurrences f (faces_of es)
  occurrences-least es h = occurrences-lookup f k l rotation-key es h

  pub AreKeys-raised : (n : ℕ) (es : List (Face × ℕ)) → AreKeys es → AreKeys (insert_entry same_key es k (n + 1))
  AreKeys-raised n es h = AreKeys-insert k (n + 1) (ap least_rotation l ∙ least-again f three ∙ sym l) es h

  pub HaveSameFaces-raised : (n : ℕ) (es : List (Face × ℕ)) → n ≡ unwrap_or (lookup (same_key k) es) 0 → HaveSameFaces (faces_of (insert_entry same_key es k (n + 1))) (faces_of es ++ f ∷ [])
  HaveSameFaces-raised n es e g =
      ap (λ m. occurrences g (faces_of (insert_entry same_key es k (m + 1)))) e
      ∙ occurrences-insert g k es
      ∙ ap (λ b. occurrences g (faces_of es) + cond b 1 0) (sym (rotation-same_right g f k.0 rotation-key))
      ∙ sym (occurrences-push g (faces_of es) f)
