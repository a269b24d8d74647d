-- Which faces are in, after changes and in the list.
use Rattle.std.proofs.Common.{◌≡◌, ℕ, Bool, true, false, ◌||◌, cond, Option, None, Some, unwrap_or, List, [], ◌∷◌, refl, sym, ◌∙◌, ap}
use Rattle.std.specs.List.{list_any, All, AllByRecursion as Each}
use Rattle.std.specs.List.Sorted.{IsPermutation}
use Rattle.std.proofs.lemmas.List.Elements.{recursion_from_All}
use Rattle.std.proofs.lemmas.List.Sorted.{list_any-IsPermutation}
use Rattle.grid.specs.declared.shapes.Face.{Face}
use Rattle.grid.specs.Meshes.{IsTriple, Ordered}
use Rattle.grid.specs.Views.{triples_of}
use Rattle.grid.specs.Simplices.{same_triple}
use Rattle.tracked.proofs.ForCallers.{same-equal}
use Rattle.mesh_types.proofs.ForCallers.{is_among, ordered_same, in_order_once-Ordered, is_among-in_order_once, Each-in_order_once}
use Rattle.tracked.specs.Keys.{Keys, same_face, state_of, is_in, put, faces_in}
use Rattle.mesh_store.specs.Parts.{Parts, tracked_in}
use Rattle.mesh_store.specs.Changes.{face_of, face_put, all_put}

first-put : (here b : Bool) → unwrap_or (cond here (Some b) None) false ≡ cond here b false
first-put true b = refl
first-put false b = refl

put-step : (f g h : Face) (s b : Bool) (keys : Keys) (fh gh gf : Bool) → same_face f h ≡ fh → same_face g h ≡ gh → same_face g f ≡ gf → is_in g (put f b keys) ≡ cond gf b (is_in g keys)
    → is_in g (cond fh ((h, b) ∷ keys) ((h, s) ∷ put f b keys)) ≡ cond gf b (unwrap_or (cond gh (Some s) (state_of g keys)) false)
put-step f g h s b keys true true true efh egh egf more = rw egh refl
put-step f g h s b keys true true false efh egh egf more = cc (ap (same_face g) (same-equal f h efh), egh, egf)
put-step f g h s b keys true false true efh egh egf more = cc (ap (same_face g) (same-equal f h efh), egh, egf)
put-step f g h s b keys true false false efh egh egf more = rw egh refl
put-step f g h s b keys false true true efh egh egf more = cc (ap (λ (x : Face). same_face x h) (same-equal g f egf), efh, egh)
put-step f g h s b keys false true false efh egh egf more = rw egh refl
put-step f g h s b keys false false true efh egh egf more = rw egh more
put-step f g h s b keys false false false efh egh egf more = rw egh more

pub is_in-put : (f g : Face) (b : Bool) (keys : Keys) → is_in g (put f b keys) ≡ cond (same_face g f) b (is_in g keys)
is_in-put f g b [] = first-put (same_face g f) b
is_in-put f g b (k ∷ keys) = put-step f g k.0 k.1 b keys (same_face f k.0) (same_face g k.0) (same_face g f) refl refl refl (is_in-put f g b keys)

put-case : (here rest before : Bool) → (rest || cond here true before) ≡ ((here || rest) || before)
put-case true true before = refl
put-case true false before = refl
put-case false true before = refl
put-case false false before = refl

pub is_in-all_put : (x : List ℕ) (ts : List (List ℕ)) (m : Parts) → is_in (face_of x) (all_put ts m).keys ≡ (is_among x ts || is_in (face_of x) m.keys)
is_in-all_put x [] m = refl
is_in-all_put x (t ∷ ts) m =
    is_in-all_put x ts (face_put (face_of t) true m)
    ∙ (ap (λ (b : Bool). is_among x ts || b) (is_in-put (face_of t) (face_of x) true m.keys) ∙ put-case (same_triple x t) (is_among x ts) (is_in (face_of x) m.keys))

-- a face that is in is a key that is in
pub state-in : (f : Face) (keys : Keys) → is_in f keys ≡ true → state_of f keys ≡ Some true
state-in f keys e = at (state_of f keys) e
  where
    at : (o : Option Bool) → unwrap_or o false ≡ true → o ≡ Some true
    at None e = cc
    at (Some true) e = refl
    at (Some false) e = cc

-- ---- the list of the tracked faces
any-triples : (x : List ℕ) (fs : List Face) → is_among x (triples_of fs) ≡ list_any (λ f. same_triple x f.0) fs
any-triples x [] = refl
any-triples x (f ∷ fs) = ap (λ (b : Bool). same_triple x f.0 || b) (any-triples x fs)

-- the sorted list of the faces that are in is the one of the definition
pub listed : (keys : Keys) (fs : List Face) → IsPermutation (faces_in keys) fs → Ordered (triples_of fs) → triples_of fs ≡ tracked_in keys
listed keys fs moved ordered =
    ordered_same (triples_of fs) (tracked_in keys) ordered (in_order_once-Ordered (triples_of (faces_in keys))) (λ x.
    any-triples x fs
    ∙ (sym (list_any-IsPermutation (λ f. same_triple x f.0) (faces_in keys) fs moved)
    ∙ (sym (any-triples x (faces_in keys)) ∙ sym (is_among-in_order_once x (triples_of (faces_in keys))))))

in-triples : (n : ℕ) (keys : Keys) → Each (λ (k : Face × Bool). IsTriple n k.0.0) keys → Each (IsTriple n) (triples_of (faces_in keys))
in-triples n [] h = tt
in-triples n ((f, true) ∷ ks) h = (h.0, in-triples n ks h.1)
in-triples n ((f, false) ∷ ks) h = in-triples n ks h.1

pub tracked-triples : (n : ℕ) (keys : Keys) → All (λ (k : Face × Bool). IsTriple n k.0.0) keys → Each (IsTriple n) (tracked_in keys)
tracked-triples n keys h = Each-in_order_once (IsTriple n) (triples_of (faces_in keys)) (in-triples n keys (recursion_from_All (λ (k : Face × Bool). IsTriple n k.0.0) keys h))
