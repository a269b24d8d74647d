-- Texts one behind the other, and repeated lines.
use Rattle.std.proofs.Common.{◌≡◌, ℕ, zero, suc, ◌+◌, List, [], ◌∷◌, ◌++◌, length, refl, sym, ap, ◌∙◌, append_assoc, arith}
use Rattle.std.specs.List.{enumerate_from, flat_map}
use Rattle.std.proofs.lemmas.List.{length-append, append-nil}
use Rattle.lines.specs.Forms.{Form, Reads, repeat}
use Rattle.lines.specs.Fields.{fixed_lines}
use Rattle.lines.specs.Texts.{joined}

-- texts one behind the other, in front of the rest
abbrev pub said : List (List ℕ) → List ℕ → List ℕ
said [] rest = rest
said (text ∷ texts) rest = text ++ said texts rest

pub joined_said : (texts : List (List ℕ)) (rest : List ℕ) → said texts rest ≡ joined texts ++ rest
joined_said [] rest = refl
joined_said (text ∷ texts) rest = ap (λ bs. text ++ bs) (joined_said texts rest) ∙ sym (append_assoc text (joined texts) rest)

pub behind : (text bytes after more : List ℕ) → bytes ≡ text ++ after → after ≡ more → bytes ≡ text ++ more
behind text bytes after more h k = h ∙ ap (λ bs. text ++ bs) k

pub lines_text : (lines : List (List ℕ)) (bytes rest : List ℕ) (u : Unit {0}) → Reads (fixed_lines lines) bytes u rest → bytes ≡ joined lines ++ rest
unfolding Reads fixed_lines
lines_text [] bytes rest u h = h.1
lines_text (line ∷ lines) bytes rest u h = h.2.spells ∙ ap (λ bs. line ++ bs) (lines_text lines h.1 rest u h.3) ∙ sym (append_assoc line (joined lines) rest)

-- ---- repeated lines
pub record Repeated {X : Type 0} (line : ℕ × X → List ℕ) (n : ℕ) (before all : List X) (bytes rest : List ℕ) : Type 0 where
  pub new : List X
  pub are : all ≡ before ++ new
  pub count : length new ≡ n
  pub text : bytes ≡ flat_map line (enumerate_from (length before) new) ++ rest

pub record OneMore {X : Type 0} (line : ℕ × X → List ℕ) (before after : List X) (bytes rest : List ℕ) : Type 0 where
  pub one : X
  pub is : after ≡ before ++ one ∷ []
  pub text : bytes ≡ line (length before, one) ++ rest

pub repeat_text : {X : Type 0} (step : List X → Form (List X)) (line : ℕ × X → List ℕ) → ((before after : List X) (bytes rest : List ℕ) → Reads (step before) bytes after rest → OneMore line before after bytes rest)
    → (n : ℕ) (before all : List X) (bytes rest : List ℕ) → Reads (repeat step n before) bytes all rest → Repeated line n before all bytes rest
unfolding Reads repeat
repeat_text step line says zero before all bytes rest h = record { new = []; are = sym h.0 ∙ sym (append-nil before); count = refl; text = h.1 }
repeat_text step line says (suc n) before all bytes rest h =
    let one = says before h.0 bytes h.1 h.2 in
    let r = repeat_text step line says n h.0 all h.1 rest h.3 in
    let place : length h.0 ≡ length before + 1 = omega (arith, ap length one.is, length-append before (one.one ∷ [])) in
    record {
      new = one.one ∷ r.new;
      are = r.are ∙ ap (λ bs. bs ++ r.new) one.is ∙ append_assoc before (one.one ∷ []) r.new;
      count = ap suc r.count;
      text = one.text ∙ ap (λ bs. line (length before, one.one) ++ bs) (r.text ∙ ap (λ (k : ℕ). flat_map line (enumerate_from k r.new) ++ rest) place) ∙ sym (append_assoc (line (length before, one.one)) (flat_map line (enumerate_from (length before + 1) r.new)) rest);
    }

-- the same where the place does not matter
pub no_places : {X : Type 0} (line : X → List ℕ) (k : ℕ) (xs : List X) → flat_map (λ (e : ℕ × X). line e.1) (enumerate_from k xs) ≡ flat_map line xs
no_places line k [] = refl
no_places line k (x ∷ xs) = ap (λ bs. line x ++ bs) (no_places line (k + 1) xs)
