-- Lists of files by their names.
use Rattle.std.proofs.Common.{◌≡◌, ◌≢◌, ℕ, suc, zero, ◌<◌, Bool, true, false, cond, List, [], ◌∷◌, ◌++◌, length, Option, None, Some, refl, sym, ◌∙◌, ap, arith, get_or}
use Rattle.std.specs.Str.{bytes_eq}
use Rattle.std.specs.Prelude.{slice_set}
use Rattle.std.proofs.lemmas.Slice.Eq.{bytes_eq-Decides}
use Rattle.mesh_io.specs.MemFiles.{lookup, AllNamesDiffer, name_at, bytes_at}
use Rattle.mesh_io.specs.MemPlace.{put}
use Rattle.mesh_io.specs.declared.mem_file.MemFile.{MemFile}

-- the same name is found
hits : (a b : List ℕ) → a ≡ b → bytes_eq a b ≡ true
hits a b e = (bytes_eq-Decides a b).1 e

misses_at : (a b : List ℕ) (t : Bool) → bytes_eq a b ≡ t → a ≢ b → t ≡ false
misses_at a b true e ne = absurd (ne ((bytes_eq-Decides a b).0 e))
misses_at a b false e ne = refl

-- another name is not
misses : (a b : List ℕ) → a ≢ b → bytes_eq a b ≡ false
misses a b ne = misses_at a b (bytes_eq a b) refl ne

-- a file of that name, or a later one
lookup-hit : (f : MemFile) (fs : List MemFile) (name : List ℕ) → f.name ≡ name → lookup (f ∷ fs) name ≡ Some f.bytes
lookup-hit f fs name same = rw (hits f.name name same) refl

lookup-miss : (f : MemFile) (fs : List MemFile) (name : List ℕ) → f.name ≢ name → lookup (f ∷ fs) name ≡ lookup fs name
lookup-miss f fs name ne = rw (misses f.name name ne) refl

pub not_there : {x : List ℕ} (o : Option (List ℕ)) → o ≡ Some x → o ≡ None → ⊥
not_there o s n = cc

pub lookup-name_at : (fs : List MemFile) (i : ℕ) → AllNamesDiffer fs → i < length fs → lookup fs (name_at fs i) ≡ Some (bytes_at fs i)
lookup-name_at [] i differ within = absurd (omega arith)
lookup-name_at (f ∷ fs) zero differ within = lookup-hit f fs f.name refl
lookup-name_at (f ∷ fs) (suc i) differ within =
    let inside : i < length fs = omega arith in
    let found = lookup-name_at fs i differ.1 inside in
    lookup-miss f fs (name_at fs i) (λ same. not_there (lookup fs (name_at fs i)) found (ap (lookup fs) (sym same) ∙ differ.0)) ∙ found

-- a name that is not in the list differs from each that is
name_differs : (fs : List MemFile) (i : ℕ) (name : List ℕ) → lookup fs name ≡ None → AllNamesDiffer fs → i < length fs → name ≢ name_at fs i
name_differs fs i name none differ within same = not_there (lookup fs (name_at fs i)) (lookup-name_at fs i differ within) (ap (lookup fs) (sym same) ∙ none)

-- two places of one name are the same
pub name_at-injective : (fs : List MemFile) (i j : ℕ) → AllNamesDiffer fs → i < length fs → j < length fs → name_at fs i ≡ name_at fs j → i ≡ j
name_at-injective [] i j differ a b same = absurd (omega arith)
name_at-injective (f ∷ fs) zero zero differ a b same = refl
name_at-injective (f ∷ fs) zero (suc j) differ a b same = absurd (name_differs fs j f.name differ.0 differ.1 (omega arith) same)
name_at-injective (f ∷ fs) (suc i) zero differ a b same = absurd (name_differs fs i f.name differ.0 differ.1 (omega arith) (sym same))
name_at-injective (f ∷ fs) (suc i) (suc j) differ a b same = ap suc (name_at-injective fs i j differ.1 (omega arith) (omega arith) same)

-- a name that is not at the place finds what it found
pub lookup-put_other : (fs : List MemFile) (i : ℕ) (bytes name : List ℕ) → name_at fs i ≢ name → lookup (put fs i bytes) name ≡ lookup fs name
lookup-put_other [] i bytes name ne = refl
lookup-put_other (f ∷ fs) zero bytes name ne = lookup-miss (record { name = f.name; bytes = bytes }) fs name ne ∙ sym (lookup-miss f fs name ne)
lookup-put_other (f ∷ fs) (suc i) bytes name ne = ap (λ o. cond (bytes_eq f.name name) (Some f.bytes) o) (lookup-put_other fs i bytes name ne)

pub name_at-put : (fs : List MemFile) (i j : ℕ) (bytes : List ℕ) → name_at (put fs i bytes) j ≡ name_at fs j
name_at-put [] i j bytes = refl
name_at-put (f ∷ fs) zero zero bytes = refl
name_at-put (f ∷ fs) zero (suc j) bytes = refl
name_at-put (f ∷ fs) (suc i) zero bytes = refl
name_at-put (f ∷ fs) (suc i) (suc j) bytes = name_at-put fs i j bytes

pub length-put : (fs : List MemFile) (i : ℕ) (bytes : List ℕ) → length (put fs i bytes) ≡ length fs
length-put [] i bytes = refl
length-put (f ∷ fs) zero bytes = refl
length-put (f ∷ fs) (suc i) bytes = ap suc (length-put fs i bytes)

bytes_at-put : (fs : List MemFile) (i : ℕ) (bytes : List ℕ) → i < length fs → bytes_at (put fs i bytes) i ≡ bytes
bytes_at-put [] i bytes within = absurd (omega arith)
bytes_at-put (f ∷ fs) zero bytes within = refl
bytes_at-put (f ∷ fs) (suc i) bytes within = bytes_at-put fs i bytes (omega arith)

pub AllNamesDiffer-put : (fs : List MemFile) (i : ℕ) (bytes : List ℕ) → AllNamesDiffer fs → i < length fs → AllNamesDiffer (put fs i bytes)
AllNamesDiffer-put [] i bytes differ within = differ
AllNamesDiffer-put (f ∷ fs) zero bytes differ within = differ
AllNamesDiffer-put (f ∷ fs) (suc i) bytes differ within =
    (lookup-put_other fs i bytes f.name (λ same. name_differs fs i f.name differ.0 differ.1 (omega arith) (sym same)) ∙ differ.0, AllNamesDiffer-put fs i bytes differ.1 (omega arith))

-- the name at the place finds the new content
pub lookup-put_here : (fs : List MemFile) (i : ℕ) (bytes : List ℕ) → AllNamesDiffer fs → i < length fs → lookup (put fs i bytes) (name_at fs i) ≡ Some bytes
lookup-put_here fs i bytes differ within =
    ap (lookup (put fs i bytes)) (sym (name_at-put fs i i bytes)) ∙ lookup-name_at (put fs i bytes) i (AllNamesDiffer-put fs i bytes differ within) (rw length-put within) ∙ ap Some (bytes_at-put fs i bytes within)

-- a new file behind the others
pub lookup-add_here : (fs : List MemFile) (f : MemFile) → lookup fs f.name ≡ None → lookup (fs ++ f ∷ []) f.name ≡ Some f.bytes
lookup-add_here [] f none = lookup-hit f [] f.name refl
lookup-add_here (e ∷ fs) f none =
    let ne : e.name ≢ f.name = λ same. not_there (lookup (e ∷ fs) f.name) (lookup-hit e fs f.name same) none in
    lookup-miss e (fs ++ f ∷ []) f.name ne ∙ lookup-add_here fs f (sym (lookup-miss e fs f.name ne) ∙ none)

pub lookup-add_other : (fs : List MemFile) (f : MemFile) (other : List ℕ) → f.name ≢ other → lookup (fs ++ f ∷ []) other ≡ lookup fs other
lookup-add_other [] f other ne = lookup-miss f [] other ne
lookup-add_other (e ∷ fs) f other ne = ap (λ o. cond (bytes_eq e.name other) (Some e.bytes) o) (lookup-add_other fs f other ne)

pub AllNamesDiffer-add : (fs : List MemFile) (f : MemFile) → AllNamesDiffer fs → lookup fs f.name ≡ None → AllNamesDiffer (fs ++ f ∷ [])
AllNamesDiffer-add [] f differ none = (refl, tt)
AllNamesDiffer-add (e ∷ fs) f differ none =
    let ne : e.name ≢ f.name = λ same. not_there (lookup (e ∷ fs) f.name) (lookup-hit e fs f.name same) none in
    (lookup-add_other fs f e.name (λ same. ne (sym same)) ∙ differ.0, AllNamesDiffer-add fs f differ.1 (sym (lookup-miss e fs f.name ne) ∙ none))

pub name_at-add : (fs : List MemFile) (f : MemFile) (j : ℕ) → j < length fs → name_at (fs ++ f ∷ []) j ≡ name_at fs j
name_at-add [] f j within = absurd (omega arith)
name_at-add (e ∷ fs) f zero within = refl
name_at-add (e ∷ fs) f (suc j) within = name_at-add fs f j (omega arith)

pub name_at-added : (fs : List MemFile) (f : MemFile) → name_at (fs ++ f ∷ []) (length fs) ≡ f.name
name_at-added [] f = refl
name_at-added (e ∷ fs) f = name_at-added fs f

-- what the code reads at a place
pub name_at-get_or : (fs : List MemFile) (i : ℕ) (d : MemFile) → i < length fs → name_at fs i ≡ (get_or fs i d).name
name_at-get_or [] i d within = absurd (omega arith)
name_at-get_or (f ∷ fs) zero d within = refl
name_at-get_or (f ∷ fs) (suc i) d within = name_at-get_or fs i d (omega arith)

pub bytes_at-get_or : (fs : List MemFile) (i : ℕ) (d : MemFile) → i < length fs → bytes_at fs i ≡ (get_or fs i d).bytes
bytes_at-get_or [] i d within = absurd (omega arith)
bytes_at-get_or (f ∷ fs) zero d within = refl
bytes_at-get_or (f ∷ fs) (suc i) d within = bytes_at-get_or fs i d (omega arith)

-- what the code writes at a place
pub slice_set-put : (fs : List MemFile) (i : ℕ) (f d : MemFile) → i < length fs → f.name ≡ (get_or fs i d).name → slice_set fs i f ≡ put fs i f.bytes
slice_set-put [] i f d within same = absurd (omega arith)
slice_set-put (g ∷ fs) zero f d within same = ap (λ n. record { name = n; bytes = f.bytes } ∷ fs) same
slice_set-put (g ∷ fs) (suc i) f d within same = ap (λ gs. g ∷ gs) (slice_set-put fs i f d (omega arith) same)
