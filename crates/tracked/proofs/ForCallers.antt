-- For callers: keys that are put in and out, and pairs.
pub use Rattle.tracked.proofs.KeyLemmas.{put-same, put-back, state-put, put-new}
pub use Rattle.tracked.proofs.PairLemmas.{in-distinct}
pub use Rattle.tracked.proofs.KeyFacts.{same-equal, same_face-IsEquivalence, All-put, All-key, distinct-put, is_in-among}
