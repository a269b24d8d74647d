-- The bits of a mask, at each way to set six of them by computing.
use Rattle.std.proofs.Common.{◌≡◌, ℕ, ◌+◌, Bool, true, false, ◌&&◌, cond, Option, None, Some, is_some, List, [], ◌∷◌, refl, ◌∙◌, sym, ap, ap₂}
use Rattle.std.specs.Bool.{beq}
use Rattle.std.proofs.lemmas.Bool.{and_parts}
use Rattle.cut_tables.specs.Cutting.{RankEdge, has_label}
use Rattle.table_pieces.specs.Labels.{edge_at, mask_of, number_or_none}

abbrev either_way : (Bool → Bool) → Bool
either_way p = p true && p false

each-way : (p : Bool → Bool) → either_way p ≡ true → (b : Bool) → p b ≡ true
each-way p h true = (and_parts (p true) (p false) h).0
each-way p h false = (and_parts (p true) (p false) h).1

same-from : (a b : Bool) → beq a b ≡ true → a ≡ b
same-from true true h = refl
same-from true false h = absurd (cc h)
same-from false true h = absurd (cc h)
same-from false false h = refl

abbrev mask_by : Bool → Bool → Bool → Bool → Bool → Bool → ℕ
mask_by a b c d e f = cond a 1 0 + cond b 2 0 + cond c 4 0 + cond d 8 0 + cond e 16 0 + cond f 32 0

abbrev has_bits : Bool → Bool → Bool → Bool → Bool → Bool → Bool
has_bits a b c d e f = let m = mask_by a b c d e f in beq (has_label m 4) a && (beq (has_label m 5) b && (beq (has_label m 6) c && (beq (has_label m 7) d && (beq (has_label m 8) e && beq (has_label m 9) f))))

all_masks : either_way (λ a. either_way (λ b. either_way (λ c. either_way (λ d. either_way (λ e. either_way (λ f. has_bits a b c d e f)))))) ≡ true
all_masks = refl

at_bits : (a b c d e f : Bool) → has_bits a b c d e f ≡ true
at_bits a b c d e f =
    each-way (λ f. has_bits a b c d e f)
    (each-way (λ e. either_way (λ f. has_bits a b c d e f))
    (each-way (λ d. either_way (λ e. either_way (λ f. has_bits a b c d e f)))
    (each-way (λ c. either_way (λ d. either_way (λ e. either_way (λ f. has_bits a b c d e f))))
    (each-way (λ b. either_way (λ c. either_way (λ d. either_way (λ e. either_way (λ f. has_bits a b c d e f)))))
    (each-way (λ a. either_way (λ b. either_way (λ c. either_way (λ d. either_way (λ e. either_way (λ f. has_bits a b c d e f)))))) all_masks a) b) c) d) e) f

-- the mask has the label of each edge that has a new point
pub record HasBits (m : ℕ) (a b c d e f : Bool) : Type 0 where
  pub at4 : has_label m 4 ≡ a
  pub at5 : has_label m 5 ≡ b
  pub at6 : has_label m 6 ≡ c
  pub at7 : has_label m 7 ≡ d
  pub at8 : has_label m 8 ≡ e
  pub at9 : has_label m 9 ≡ f

pub bits-are : (a b c d e f : Option ℕ) → HasBits (mask_of a b c d e f) (is_some a) (is_some b) (is_some c) (is_some d) (is_some e) (is_some f)
bits-are a b c d e f =
    let m = mask_of a b c d e f in
    let p = and_parts (beq (has_label m 4) (is_some a)) _ (at_bits (is_some a) (is_some b) (is_some c) (is_some d) (is_some e) (is_some f)) in
    let q = and_parts (beq (has_label m 5) (is_some b)) _ p.1 in
    let r = and_parts (beq (has_label m 6) (is_some c)) _ q.1 in
    let s = and_parts (beq (has_label m 7) (is_some d)) _ r.1 in
    let t = and_parts (beq (has_label m 8) (is_some e)) _ s.1 in
    record {
      at4 = same-from _ _ p.0;
      at5 = same-from _ _ q.0;
      at6 = same-from _ _ r.0;
      at7 = same-from _ _ s.0;
      at8 = same-from _ _ t.0;
      at9 = same-from _ _ t.1;
    }

-- what was found for an edge, as the mask and the numbers have it
pub looked-up : (xs : List RankEdge) (u v k : ℕ) (has : Bool) (point : Option ℕ) → xs ≡ edge_at u v point → has ≡ is_some point → k ≡ number_or_none point → xs ≡ cond has (record { first = u; second = v; label = k } ∷ []) []
looked-up xs u v k has None e h n = e ∙ ap (λ b. cond b (record { first = u; second = v; label = k } ∷ []) []) (sym h)
looked-up xs u v k has (Some l) e h n = e ∙ ap₂ (λ m b. cond b (record { first = u; second = v; label = m } ∷ []) []) (sym n) (sym h)
