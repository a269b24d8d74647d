-- Values that a form can say.
use Rattle.std.proofs.Common.{◌≡◌, ℕ, suc, ◌+◌, List, [], ◌∷◌, ◌++◌, length, get_or, refl, sym, ◌∙◌, subst, arith, append_assoc}
use Rattle.std.proofs.lemmas.List.{append-nil}
use Rattle.lines.specs.Forms.{Form, done, field, ◌>>=◌, Reads, repeat}
use Rattle.lines.specs.Fields.{fixed, fixed_lines}
use Rattle.lines.specs.Whole.{IsText}

-- some text says the value, whatever follows
pub record CanSay {X : Type 0} (form : Form X) (x : X) : Type 0 where
  pub text : List ℕ → List ℕ
  pub reads : (rest : List ℕ) → Reads form (text rest) x rest

-- ---- forms of each kind
pub says_done : {X : Type 0} {x y : X} → x ≡ y → CanSay (done x) y
unfolding Reads
says_done same = record { text = λ rest. rest; reads = λ rest. (same, refl) }

pub says_field : {X : Type 0} {spelled : X → List ℕ} {Allowed : X → Type 0} (x : X) → Allowed x → CanSay (field spelled Allowed) x
unfolding Reads
says_field {spelled = spelled} x allowed = record {
  text = λ rest. spelled x ++ rest;
  reads = λ rest. record { allowed = allowed; spells = refl };
}

pub says_then : {X Y : Type 0} {first : Form X} {next : X → Form Y} {y : Y} (x : X) → CanSay first x → CanSay (next x) y → CanSay (first >>= next) y
unfolding Reads
says_then x h k = record { text = λ rest. h.text (k.text rest); reads = λ rest. (x, k.text rest, h.reads (k.text rest), k.reads rest) }

pub says_fixed : (text : List ℕ) → CanSay (fixed text) tt
says_fixed text = says_field tt tt

pub says_lines : (lines : List (List ℕ)) → CanSay (fixed_lines lines) tt
unfolding fixed_lines
says_lines [] = says_done refl
says_lines (line ∷ lines) = says_then tt (says_fixed line) (says_lines lines)

-- ---- repeated lines
-- the lines for the later values, which fit behind those before, and what n more lines say behind them
pub says_rows : {S X : Type 0} {end : S} (step : S → Form S) (n : ℕ) (state : List X → S) (Fits : List X → List X → Type 0)
    → ((before : List X) (x : X) (later : List X) → Fits before (x ∷ later) → CanSay (step (state before)) (state (before ++ x ∷ [])))
    → ((before : List X) (x : X) (later : List X) → Fits before (x ∷ later) → Fits (before ++ x ∷ []) later)
    → (before later : List X) (total : ℕ) → total ≡ length later + n → Fits before later → CanSay (repeat step n (state (before ++ later))) end → CanSay (repeat step total (state before)) end
unfolding repeat
says_rows {end = end} step n state Fits says fits before [] total is h k =
    let same : n ≡ total = omega (arith, is) in
    subst (λ m. CanSay (repeat step m (state before)) end) same (subst (λ xs. CanSay (repeat step n (state xs)) end) (append-nil before) k)
says_rows {X = X} {end = end} step n state Fits says fits before (x ∷ later) total is h k =
    let more : suc (length later + n) ≡ total = omega (arith, is) in
    let now : List X = before ++ x ∷ [] in
    subst (λ m. CanSay (repeat step m (state before)) end) more
    (says_then (state now) (says before x later h)
    (says_rows step n state Fits says fits now later (length later + n) refl (fits before x later h) (subst (λ xs. CanSay (repeat step n (state xs)) end) (sym (append_assoc before (x ∷ []) later)) k)))

-- the lines for all values of a list
pub says_all : {S X : Type 0} (step : S → Form S) (state : List X → S) (Fits : List X → List X → Type 0)
    → ((before : List X) (x : X) (later : List X) → Fits before (x ∷ later) → CanSay (step (state before)) (state (before ++ x ∷ [])))
    → ((before : List X) (x : X) (later : List X) → Fits before (x ∷ later) → Fits (before ++ x ∷ []) later)
    → (all : List X) → Fits [] all → CanSay (repeat step (length all) (state [])) (state all)
unfolding repeat
says_all step state Fits says fits all h = says_rows step 0 state Fits says fits [] all (length all) (omega arith) h (says_done refl)

-- ---- whole texts
-- where the form reads the value from its text alone, the text says it
pub is_text : {X : Type 0} {form : Form X} {x : X} (text : List ℕ) → CanSay form x → ((bytes : List ℕ) → Reads form bytes x [] → bytes ≡ text ++ []) → IsText form text x
is_text {form = form} {x = x} text h says = subst (λ bs. Reads form bs x []) (says (h.text []) (h.reads []) ∙ append-nil text) (h.reads [])

-- ---- lists of three and of four
pub three_items : {X : Type 0} (xs : List X) → length xs ≡ 3 → (p q r : X) → xs ≡ get_or xs 0 p ∷ get_or xs 1 q ∷ get_or xs 2 r ∷ []
three_items [] l p q r = let no : ⊥ = omega (arith, l) in absurd no
three_items (x ∷ []) l p q r = let no : ⊥ = omega (arith, l) in absurd no
three_items (x ∷ y ∷ []) l p q r = let no : ⊥ = omega (arith, l) in absurd no
three_items (x ∷ y ∷ z ∷ []) l p q r = refl
three_items (x ∷ y ∷ z ∷ w ∷ rest) l p q r = let no : ⊥ = omega (arith, l) in absurd no

pub four_items : {X : Type 0} (xs : List X) → length xs ≡ 4 → (p q r s : X) → xs ≡ get_or xs 0 p ∷ get_or xs 1 q ∷ get_or xs 2 r ∷ get_or xs 3 s ∷ []
four_items [] l p q r s = let no : ⊥ = omega (arith, l) in absurd no
four_items (x ∷ []) l p q r s = let no : ⊥ = omega (arith, l) in absurd no
four_items (x ∷ y ∷ []) l p q r s = let no : ⊥ = omega (arith, l) in absurd no
four_items (x ∷ y ∷ z ∷ []) l p q r s = let no : ⊥ = omega (arith, l) in absurd no
four_items (x ∷ y ∷ z ∷ w ∷ []) l p q r s = refl
four_items (x ∷ y ∷ z ∷ w ∷ v ∷ rest) l p q r s = let no : ⊥ = omega (arith, l) in absurd no
