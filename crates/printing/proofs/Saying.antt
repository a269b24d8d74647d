-- Lines that are printed in parts.
use Rattle.std.proofs.Common.{◌≡◌, ◌⊎◌, inl, inr, ℕ, ◌+◌, ◌≤◌, min, List, ◌++◌, length, take, Ok, Err, sym, ◌∙◌, ap, arith, append_assoc}
use Rattle.std.proofs.lemmas.List.{take-append-le, take_min}
use Rattle.std.proofs.Math.Seq.{take-append-add}
use Rattle.mesh_io.specs.Sink.{SinkState, SinkCall, SinkRose, Appended}
use Rattle.mesh_io.specs.Write.{WritesAll}
use Rattle.mesh_io.specs.declared.folder.Failed.{Failed}
use Rattle.mesh_io.proofs.Calls.{SinkCall-trans, SinkRose-after}
use Rattle.printing.specs.Printed.{Says}

-- a front of the first part is one of both
take_front : (n : ℕ) (a b : List ℕ) → (m : ℕ) × (take m (a ++ b) ≡ take n a)
take_front n a b = let le : min n (length a) ≤ length a = omega arith in (min n (length a), take-append-le (min n (length a)) a b le ∙ take_min n a)

pub Appended-trans : (before mid after : SinkState) (a b : List ℕ) → mid.told ≡ before.told → Appended before mid a → Appended mid after b → Appended before after (a ++ b)
Appended-trans before mid after a b same first second = λ told. second (same ∙ told) ∙ ap (λ xs. xs ++ b) (first told) ∙ append_assoc before.bytes a b

-- the first part was not written whole
pub says_part : {T : Type 0} (before after : SinkState) (a b : List ℕ) (e : Failed) → WritesAll {T = T} before after a (Err e) → Says before after (a ++ b)
says_part before after a b e writes =
    let front = take_front writes.err.0 a b in
    record {
      call = writes.call;
      printed = inr (writes.failed, (front.0, λ told. writes.err.1 told ∙ ap (λ xs. before.bytes ++ xs) (sym front.1)));
    }

-- the first part was written, and then the second was said
pub says_more : {T : Type 0} (before mid after : SinkState) (a b : List ℕ) (x : T) → WritesAll before mid a (Ok x) → Says mid after b → Says before after (a ++ b)
says_more before mid after a b x writes says = record {
  call = SinkCall-trans before mid after writes.call says.call;
  printed = printed_after before mid after a b writes.call writes.ok says.printed;
}
  where
    printed_after : (before mid after : SinkState) (a b : List ℕ) → SinkCall before mid → Appended before mid a → (Appended mid after b ⊎ (SinkRose mid after × ((n : ℕ) × Appended mid after (take n b)))) → Appended before after (a ++ b) ⊎ (SinkRose before after × ((n : ℕ) × Appended before after (take n (a ++ b))))
    printed_after before mid after a b call first (inl whole) = inl (Appended-trans before mid after a b call.told first whole)
    printed_after before mid after a b call first (inr part) =
        inr (SinkRose-after before mid after call part.0, (length a + part.1.0, λ told. Appended-trans before mid after a (take part.1.0 b) call.told first part.1.1 told ∙ ap (λ xs. before.bytes ++ xs) (sym (take-append-add a b part.1.0))))
