-- The slots of entries that were put in a list or taken out.
use Rattle.std.proofs.Common.{◌≡◌, ℕ, zero, suc, Bool, true, false, not, cond, ◌||◌, nat_eq, ◌+◌, ◌<◌, ◌≤◌, List, [], ◌∷◌, ◌++◌, length, drop, get_or, All, refl, sym, ◌∙◌, ap, ◌⊎◌, inl, arith}
use Rattle.std.specs.List.{Contains, filter}
use Rattle.std.proofs.lemmas.Bool.{eq-eqb, or_right}
use Rattle.std.proofs.lemmas.List.{map-append, append_assoc, append-nil, drop_all, drop_more}
use Rattle.std.proofs.lemmas.List.Elements.{All-contains, All-contains_itself, All-filter, filter-append, Contains-push_cases, Contains-get_or}
use Rattle.grid.specs.Simplices.{has}
use Rattle.grid.proofs.ForCallers.{shorter}
use Rattle.tet_slots.specs.declared.bins.Entry.{Entry}
use Rattle.tet_slots.specs.Bins.{slots_of, and_entry, but_slot}
use Rattle.tet_slots.specs.PointLists.{and_last, but}

-- the slot of an entry is among the slots
pub has-entry : (es : List Entry) (e : Entry) → Contains es e → has (slots_of es) e.slot ≡ true
has-entry es e (k, l, is) = at es k l is
  where
    at : (es : List Entry) (k : ℕ) → k < length es → get_or es k e ≡ e → has (slots_of es) e.slot ≡ true
    at [] k l is = absurd (omega arith)
    at (x ∷ es) zero l is = ap (λ (t : Bool). t || has (slots_of es) e.slot) (eq-eqb x.slot e.slot (ap (λ (x : Entry). x.slot) is))
    at (x ∷ es) (suc k) l is = or_right (nat_eq x.slot e.slot) (has (slots_of es) e.slot) (at es k (shorter k (length es) l) is)

pub All-contained : (P : Entry → Type 0) (es : List Entry) → ((e : Entry) → Contains es e → P e) → All P es
All-contained P es h = λ k d l. h (get_or es k d) (Contains-get_or es k d l)

pub slots-put : (c : Bool) (e : Entry) (es : List Entry) → slots_of (cond c (and_entry e es) es) ≡ cond c (and_last e.slot (slots_of es)) (slots_of es)
slots-put true e es = map-append (λ (e : Entry). e.slot) es (e ∷ [])
slots-put false e es = refl

slots-but : (k : ℕ) (es : List Entry) → slots_of (but_slot k es) ≡ but k (slots_of es)
slots-but k [] = refl
slots-but k (e ∷ es) = by (nat_eq e.slot k) (slots-but k es)
  where
    by : (t : Bool) → slots_of (but_slot k es) ≡ but k (slots_of es) → slots_of (cond (not t) (e ∷ but_slot k es) (but_slot k es)) ≡ cond (not t) (e.slot ∷ but k (slots_of es)) (but k (slots_of es))
    by true h = h
    by false h = ap (λ (xs : List ℕ). e.slot ∷ xs) h

pub slots-taken : (c : Bool) (k : ℕ) (es : List Entry) → slots_of (cond c (but_slot k es) es) ≡ cond c (but k (slots_of es)) (slots_of es)
slots-taken true k es = slots-but k es
slots-taken false k es = refl

-- what is there was there, or was put in
pub put-cases : (c : Bool) (w : Entry) (es : List Entry) (e : Entry) → Contains (cond c (and_entry w es) es) e → Contains es e ⊎ (w ≡ e)
put-cases true w es e h = Contains-push_cases es w e h
put-cases false w es e h = inl h

-- what was not taken out was there
pub taken-among : (c : Bool) (k : ℕ) (es : List Entry) (e : Entry) → Contains (cond c (but_slot k es) es) e → Contains es e
taken-among true k es e h = All-contains (Contains es) (but_slot k es) e (All-filter (λ (e : Entry). not (nat_eq e.slot k)) (Contains es) es (All-contains_itself es)) h
taken-among false k es e h = h

-- a search of the entries one after the other
pub filter-step : (p : ℕ → Bool) (es : List Entry) (k : ℕ) (d : Entry) (mid new all : List ℕ) → k < length es → new ≡ mid ++ filter p ((get_or es k d).slot ∷ []) → mid ++ filter p (slots_of (drop k es)) ≡ all → new ++ filter p (slots_of (drop (k + 1) es)) ≡ all
filter-step p es k d mid new all l made h =
    let e : Entry = get_or es k d in
    let rest : List ℕ = slots_of (drop (k + 1) es) in
    ap (λ (xs : List ℕ). xs ++ filter p rest) made
    ∙ (append_assoc mid (filter p (e.slot ∷ [])) (filter p rest)
    ∙ (ap (λ (xs : List ℕ). mid ++ xs) (sym (filter-append p (e.slot ∷ []) rest) ∙ ap (λ (xs : List Entry). filter p (slots_of xs)) (sym (drop_more es k d l))) ∙ h))

pub filter-end : (p : ℕ → Bool) (es : List Entry) (k : ℕ) (found all : List ℕ) → length es ≤ k → found ++ filter p (slots_of (drop k es)) ≡ all → found ≡ all
filter-end p es k found all l h = sym (append-nil found) ∙ (ap (λ (xs : List Entry). found ++ filter p (slots_of xs)) (sym (drop_all k es l)) ∙ h)

pub filter-yes : (p : ℕ → Bool) (old : List ℕ) (i : ℕ) → p i ≡ true → old ++ i ∷ [] ≡ old ++ filter p (i ∷ [])
filter-yes p old i h = ap (λ (b : Bool). old ++ cond b (i ∷ []) []) (sym h)

pub filter-no : (p : ℕ → Bool) (old : List ℕ) (i : ℕ) → p i ≡ false → old ≡ old ++ filter p (i ∷ [])
filter-no p old i h = sym (append-nil old) ∙ ap (λ (b : Bool). old ++ cond b (i ∷ []) []) (sym h)
