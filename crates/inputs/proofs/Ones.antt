-- Files give one thing only.
use Rattle.std.proofs.Common.{◌≡◌, ◌⊎◌, inl, inr, ℕ, ◌<◌, ◌≤◌, List, length, Option, Some, None, Result, Ok, Err, ap, subst, arith}
use Rattle.mesh_io.specs.Folder.{Files}
use Rattle.inputs.specs.Readings.{Found, Gives, Missing, Refused, Inputs, ◌>>=◌, known, file, Text, most_bytes}
use Rattle.printing.specs.Printed.{too_long_line}

-- they give at most one value, and are not there or refused only where they give none
pub record IsOne {X : Type 0} (inputs : Inputs X) : Type 0 where
  pub same : (files : Files) (x y : X) → inputs files (Gives x) → inputs files (Gives y) → x ≡ y
  pub not_refused : (files : Files) (x : X) (line : List ℕ) → inputs files (Gives x) → inputs files (Refused line) → ⊥
  pub not_missing : (files : Files) (x : X) (name : List ℕ) → inputs files (Gives x) → inputs files (Missing name) → ⊥
  pub apart : (files : Files) (name line : List ℕ) → inputs files (Missing name) → inputs files (Refused line) → ⊥

-- a text says one thing only
pub record SaysOne {X : Type 0} (Says : Text X) : Type 0 where
  pub same : (bytes : List ℕ) (x y : X) → Says bytes (Ok x) → Says bytes (Ok y) → x ≡ y
  pub apart : (bytes : List ℕ) (x : X) (line : List ℕ) → Says bytes (Ok x) → Says bytes (Err line) → ⊥

-- ---- known values
ok_same : {X : Type 0} (r : Result X (List ℕ)) (x y : X) → r ≡ Ok x → r ≡ Ok y → x ≡ y
ok_same r x y f g = cc

ok_apart : {X : Type 0} (r : Result X (List ℕ)) (x : X) (line : List ℕ) → r ≡ Ok x → r ≡ Err line → ⊥
ok_apart r x line f g = cc

pub known-IsOne : {X : Type 0} (r : Result X (List ℕ)) → IsOne (known r)
known-IsOne r = record {
  same = λ files x y f g. ok_same r x y f g;
  not_refused = λ files x line f g. ok_apart r x line f g;
  not_missing = λ files x name f g. g;
  apart = λ files name line f g. f;
}

-- ---- files
some_same : (o : Option (List ℕ)) (a b : List ℕ) → o ≡ Some a → o ≡ Some b → a ≡ b
some_same o a b f g = cc

some_none : (o : Option (List ℕ)) (a : List ℕ) → o ≡ Some a → o ≡ None → ⊥
some_none o a f g = cc

pub file-IsOne : {X : Type 0} (name : List ℕ) (Says : Text X) → SaysOne Says → IsOne (file name Says)
file-IsOne {X = X} name Says one = record {
  same = λ files x y f g. one.same f.0 x y f.3 (subst (λ b. Says b (Ok y)) (some_same (files name) g.0 f.0 g.1 f.1) g.3);
  not_refused = λ files x line f g. refuse files x line f g.0 g.1 g.2;
  not_missing = λ files x other f g. some_none (files name) f.0 f.1 g.0;
  apart = λ files other line f g. some_none (files name) g.0 g.1 f.0;
}
  where
    refuse : (files : Files) (x : X) (line : List ℕ) → file name Says files (Gives x) → (bytes : List ℕ) → files name ≡ Some bytes
        → ((most_bytes < length bytes) × (line ≡ too_long_line name)) ⊎ ((length bytes ≤ most_bytes) × Says bytes (Err line)) → ⊥
    refuse files x line f bytes is (inl long) = let same = some_same (files name) bytes f.0 is f.1 in absurd (omega (arith, ap length same, long.0, f.2))
    refuse files x line f bytes is (inr said) = one.apart f.0 x line f.3 (subst (λ b. Says b (Err line)) (some_same (files name) bytes f.0 is f.1) said.1)

-- ---- one behind the other
pub then-IsOne : {X Y : Type 0} (first : Inputs X) (next : X → Inputs Y) → IsOne first → ((x : X) → IsOne (next x)) → IsOne (first >>= next)
unfolding ◌>>=◌
then-IsOne {X = X} {Y = Y} first next one more = record {
  same = λ files x y f g. (more f.0).same files x y f.2 (moved files (Gives y) f.0 g.0 f.1 g.1 g.2);
  not_refused = λ files x line f g. not_refused files x line f.0 f.1 f.2 g;
  not_missing = λ files x name f g. not_missing files x name f.0 f.1 f.2 g;
  apart = λ files name line f g. both files name line f g;
}
  where
    moved : (files : Files) (found : Found Y) (a b : X) → first files (Gives a) → first files (Gives b) → next b files found → next a files found
    moved files found a b f g h = subst (λ x. next x files found) (one.same files b a g f) h

    not_refused : (files : Files) (y : Y) (line : List ℕ) (x : X) → first files (Gives x) → next x files (Gives y) → (first >>= next) files (Refused line) → ⊥
    not_refused files y line x g h (inl r) = one.not_refused files x line g r
    not_refused files y line x g h (inr (z, gives, r)) = (more x).not_refused files y line h (moved files (Refused line) x z g gives r)

    not_missing : (files : Files) (y : Y) (name : List ℕ) (x : X) → first files (Gives x) → next x files (Gives y) → (first >>= next) files (Missing name) → ⊥
    not_missing files y name x g h (inl m) = one.not_missing files x name g m
    not_missing files y name x g h (inr (z, gives, m)) = (more x).not_missing files y name h (moved files (Missing name) x z g gives m)

    both : (files : Files) (name line : List ℕ) → (first >>= next) files (Missing name) → (first >>= next) files (Refused line) → ⊥
    both files name line (inl m) (inl r) = one.apart files name line m r
    both files name line (inl m) (inr (x, g, r)) = one.not_missing files x name g m
    both files name line (inr (x, g, m)) (inl r) = one.not_refused files x line g r
    both files name line (inr (x, g, m)) (inr (z, gives, r)) = (more x).apart files name line m (moved files (Refused line) x z g gives r)
