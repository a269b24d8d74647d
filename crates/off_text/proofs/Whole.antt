-- Reading a whole text, part by part.
use Rattle.std.proofs.Common.{◌≡◌, ℕ, List, length, Option, Result, Ok, refl, sym, ap, ◌∙◌, ℤ}
use Rattle.soup.specs.declared.raw.Raw.{Raw}
use Rattle.off_text.specs.declared.issue.OffIssue.{OffIssue}
use Rattle.off_text.specs.Words.{Word}
use Rattle.off_text.specs.Scans.{rest_at}
use Rattle.off_text.specs.Grammar.{Refusal, Reading, ◌>>=◌, next, keyword, first_count, count, edge_count, vertices, faces, reads}
use Rattle.off_text.specs.Gives.{Fails}
use Rattle.off_text.proofs.Loops.{fails_first, fails_same}

-- the soup from one of its parts on
abbrev pub with_faces : List (List ℤ) → Result (List (List ℕ)) Refusal → Result Raw Refusal
with_faces points said = said >>= λ triangles. Ok (record { vertices = points; faces = triangles })

abbrev pub with_points : (digits : Option ℕ) → (end n f : ℕ) → Reading (List (List ℤ)) → Result Raw Refusal
with_points digits end n f said = said >>= λ points. with_faces points.0 (faces end n f 0 points.1)

abbrev pub with_edges : (digits : Option ℕ) → (end n f : ℕ) → Reading (Unit {0}) → Result Raw Refusal
with_edges digits end n f said = said >>= λ edges. with_points digits end n f (vertices digits end n edges.1)

abbrev pub with_face_count : (digits : Option ℕ) → (end n : ℕ) → Reading ℕ → Result Raw Refusal
with_face_count digits end n said = said >>= λ f. with_edges digits end n f.0 (next edge_count end f.1)

abbrev pub with_vertex_count : (digits : Option ℕ) → (end : ℕ) → Reading ℕ → Result Raw Refusal
with_vertex_count digits end said = said >>= λ n. with_face_count digits end n.0 (next count end n.1)

abbrev pub with_keyword : (digits : Option ℕ) → (end : ℕ) → Result (List Word) Refusal → Result Raw Refusal
with_keyword digits end said = said >>= λ rest. with_vertex_count digits end (next first_count end rest)

pub reads_is : (digits : Option ℕ) (bytes : List ℕ) → reads digits bytes ≡ with_keyword digits (length bytes) (keyword (length bytes) (rest_at bytes 0))
unfolding reads rest_at
reads_is digits bytes = refl

-- what is known once each part was read
pub after_keyword : (digits : Option ℕ) (bytes : List ℕ) (a : List Word) → keyword (length bytes) (rest_at bytes 0) ≡ Ok a → reads digits bytes ≡ with_vertex_count digits (length bytes) (next first_count (length bytes) a)
after_keyword digits bytes a h = reads_is digits bytes ∙ ap (with_keyword digits (length bytes)) h

pub after_first_count : (digits : Option ℕ) (bytes : List ℕ) (a b : List Word) (n : ℕ) → keyword (length bytes) (rest_at bytes 0) ≡ Ok a → next first_count (length bytes) a ≡ Ok (n, b) → reads digits bytes ≡ with_face_count digits (length bytes) n (next count (length bytes) b)
after_first_count digits bytes a b n h1 h2 = after_keyword digits bytes a h1 ∙ ap (with_vertex_count digits (length bytes)) h2

-- the words before the edges, before the vertices and before the faces
pub record HasCounts (bytes : List ℕ) (a b c : List Word) (n f : ℕ) : Type 0 where
  pub keyword_is : keyword (length bytes) (rest_at bytes 0) ≡ Ok a
  pub vertices_are : next first_count (length bytes) a ≡ Ok (n, b)
  pub faces_are : next count (length bytes) b ≡ Ok (f, c)

pub after_counts : (digits : Option ℕ) (bytes : List ℕ) (a b c : List Word) (n f : ℕ) → HasCounts bytes a b c n f → reads digits bytes ≡ with_edges digits (length bytes) n f (next edge_count (length bytes) c)
after_counts digits bytes a b c n f h = after_first_count digits bytes a b n h.keyword_is h.vertices_are ∙ ap (with_face_count digits (length bytes) n) h.faces_are

pub after_edges : (digits : Option ℕ) (bytes : List ℕ) (a b c d : List Word) (n f : ℕ) → HasCounts bytes a b c n f → next edge_count (length bytes) c ≡ Ok (tt, d) → reads digits bytes ≡ with_points digits (length bytes) n f (vertices digits (length bytes) n d)
after_edges digits bytes a b c d n f h edges = after_counts digits bytes a b c n f h ∙ ap (with_edges digits (length bytes) n f) edges

pub after_points : (digits : Option ℕ) (bytes : List ℕ) (a b c d e : List Word) (n f : ℕ) (points : List (List ℤ)) → HasCounts bytes a b c n f → next edge_count (length bytes) c ≡ Ok (tt, d) → vertices digits (length bytes) n d ≡ Ok (points, e)
    → reads digits bytes ≡ with_faces points (faces (length bytes) n f 0 e)
after_points digits bytes a b c d e n f points h edges is = after_edges digits bytes a b c d n f h edges ∙ ap (with_points digits (length bytes) n f) is

pub after_faces : (digits : Option ℕ) (bytes : List ℕ) (a b c d e : List Word) (n f : ℕ) (points : List (List ℤ)) (triangles : List (List ℕ)) → HasCounts bytes a b c n f → next edge_count (length bytes) c ≡ Ok (tt, d) → vertices digits (length bytes) n d ≡ Ok (points, e)
    → faces (length bytes) n f 0 e ≡ Ok triangles → reads digits bytes ≡ Ok (record { vertices = points; faces = triangles })
after_faces digits bytes a b c d e n f points triangles h edges is all = after_points digits bytes a b c d e n f points h edges is ∙ ap (with_faces points) all

-- ---- failures
pub keyword_fails : (digits : Option ℕ) (e : OffIssue) (bytes : List ℕ) → Fails e (keyword (length bytes) (rest_at bytes 0)) → Fails e (reads digits bytes)
keyword_fails digits e bytes fails = fails_same e _ _ (sym (reads_is digits bytes)) (fails_first e (keyword (length bytes) (rest_at bytes 0)) (λ rest. with_vertex_count digits (length bytes) (next first_count (length bytes) rest)) fails)

pub first_count_fails : (digits : Option ℕ) (e : OffIssue) (bytes : List ℕ) (a : List Word) → keyword (length bytes) (rest_at bytes 0) ≡ Ok a → Fails e (next first_count (length bytes) a) → Fails e (reads digits bytes)
first_count_fails digits e bytes a h fails = fails_same e _ _ (sym (after_keyword digits bytes a h)) (fails_first e (next first_count (length bytes) a) (λ n. with_face_count digits (length bytes) n.0 (next count (length bytes) n.1)) fails)

pub count_fails : (digits : Option ℕ) (e : OffIssue) (bytes : List ℕ) (a b : List Word) (n : ℕ) → keyword (length bytes) (rest_at bytes 0) ≡ Ok a → next first_count (length bytes) a ≡ Ok (n, b) → Fails e (next count (length bytes) b) → Fails e (reads digits bytes)
count_fails digits e bytes a b n h1 h2 fails = fails_same e _ _ (sym (after_first_count digits bytes a b n h1 h2)) (fails_first e (next count (length bytes) b) (λ f. with_edges digits (length bytes) n f.0 (next edge_count (length bytes) f.1)) fails)

pub edges_fail : (digits : Option ℕ) (e : OffIssue) (bytes : List ℕ) (a b c : List Word) (n f : ℕ) → HasCounts bytes a b c n f → Fails e (next edge_count (length bytes) c) → Fails e (reads digits bytes)
edges_fail digits e bytes a b c n f h fails = fails_same e _ _ (sym (after_counts digits bytes a b c n f h)) (fails_first e (next edge_count (length bytes) c) (λ edges. with_points digits (length bytes) n f (vertices digits (length bytes) n edges.1)) fails)

pub points_fail : (digits : Option ℕ) (e : OffIssue) (bytes : List ℕ) (a b c d : List Word) (n f : ℕ) → HasCounts bytes a b c n f → next edge_count (length bytes) c ≡ Ok (tt, d) → Fails e (vertices digits (length bytes) n d) → Fails e (reads digits bytes)
points_fail digits e bytes a b c d n f h edges fails = fails_same e _ _ (sym (after_edges digits bytes a b c d n f h edges)) (fails_first e (vertices digits (length bytes) n d) (λ points. with_faces points.0 (faces (length bytes) n f 0 points.1)) fails)

pub faces_fail_too : (digits : Option ℕ) (e : OffIssue) (bytes : List ℕ) (a b c d k : List Word) (n f : ℕ) (points : List (List ℤ)) → HasCounts bytes a b c n f → next edge_count (length bytes) c ≡ Ok (tt, d) → vertices digits (length bytes) n d ≡ Ok (points, k)
    → Fails e (faces (length bytes) n f 0 k) → Fails e (reads digits bytes)
faces_fail_too digits e bytes a b c d k n f points h edges is fails = fails_same e _ _ (sym (after_points digits bytes a b c d k n f points h edges is)) (fails_first e (faces (length bytes) n f 0 k) (λ triangles. Ok (record { vertices = points; faces = triangles })) fails)

abbrev pub said : Raw → Result Raw Refusal
said raw = Ok raw

pub same_soup : (points others : List (List ℤ)) (triangles more : List (List ℕ)) → points ≡ others → triangles ≡ more → said (record { vertices = points; faces = triangles }) ≡ said (record { vertices = others; faces = more })
same_soup points others triangles more e f = λ i. said (record { vertices = e i; faces = f i })
