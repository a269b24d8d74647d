-- When the code gives what the grammar says.
use Rattle.std.specs.Prelude.{◌≡◌, ℕ, List, ◌++◌, Result, Ok, Err}
use Rattle.off_text.specs.declared.issue.OffIssue.{OffIssue}
use Rattle.off_text.specs.declared.issue.OffIssue.TheVariants as issues
use Rattle.off_text.specs.Grammar.{Refusal, Reading, ◌>>=◌, fan_on}

-- an error is want of memory, or the first refusal
abbrev pub Fails : {Y : Type 0} → OffIssue → Result Y Refusal → Type 0
Fails (issues.At kind place) said = said ≡ Err (record { kind = kind; place = place })
Fails issues.Memory said = Unit {0}

-- a result, seen by view, is what the grammar says, unless memory ran out
abbrev pub Gives : {X Y : Type 0} → (X → Y) → Result X OffIssue → Result Y Refusal → Type 0
Gives view (Ok x) said = said ≡ Ok (view x)
Gives view (Err e) said = Fails e said

-- what was read before, and what is read behind it
abbrev pub with_front : {X : Type 0} → List X → Reading (List X) → Reading (List X)
with_front front said = said >>= λ x. Ok (front ++ x.0, x.1)

abbrev pub joined_to : {X : Type 0} → List X → Result (List X) Refusal → Result (List X) Refusal
joined_to front said = said >>= λ xs. Ok (front ++ xs)

-- the triangles so far, and those of a fan whose further corners are read
abbrev pub with_fan : List (List ℕ) → (a b : ℕ) → Result (List ℕ) Refusal → Result (List (List ℕ)) Refusal
with_fan front a b said = said >>= λ cs. Ok (front ++ fan_on a b cs)
