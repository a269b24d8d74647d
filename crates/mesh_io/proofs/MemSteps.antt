-- The calls of a folder in memory.
use Rattle.std.proofs.Common.{◌≡◌, ◌≢◌, ℕ, ◌+◌, ◌<◌, ◌≤◌, Bool, true, false, List, [], ◌∷◌, ◌++◌, length, Option, None, Some, Ok, refl, sym, ◌∙◌, ap, arith, take, drop, unwrap_or, cond, ◌==◌, is_some, IfSome, eq-eqb, min}
use Rattle.std.proofs.lemmas.Bool.Decides.{Decides-eqb}
use Rattle.mesh_io.specs.Folder.{Puts, content_of, WritesSome, Creates, Opens, Reads, left}
use Rattle.mesh_io.specs.MemFiles.{lookup, AllNamesDiffer, name_at, bytes_at}
use Rattle.mesh_io.specs.MemPlace.{HasName, put, restart}
use Rattle.mesh_io.specs.MemState.{MemState, folder_state, name_of_reading, name_of_writing, place_of_reading}
use Rattle.mesh_io.specs.declared.mem_file.MemFile.{MemFile}
use Rattle.mesh_io.proofs.MemNames.{not_there, lookup-name_at, lookup-put_here, lookup-put_other, name_at-put, lookup-add_here, lookup-add_other, name_at-add, name_at-added, name_at-injective}

name_of_reading-put : (fs : List MemFile) (i : ℕ) (bytes : List ℕ) (r : Option (ℕ × ℕ)) → name_of_reading (put fs i bytes) r ≡ name_of_reading fs r
name_of_reading-put fs i bytes None = refl
name_of_reading-put fs i bytes (Some r) = name_at-put fs i r.0 bytes

name_of_writing-put : (fs : List MemFile) (i : ℕ) (bytes : List ℕ) (w : Option ℕ) → name_of_writing (put fs i bytes) w ≡ name_of_writing fs w
name_of_writing-put fs i bytes None = refl
name_of_writing-put fs i bytes (Some w) = name_at-put fs i w bytes

-- a new content at a place is one of its name
Puts-put : (fs : List MemFile) (i : ℕ) (name bytes : List ℕ) → AllNamesDiffer fs → i < length fs → name_at fs i ≡ name → Puts name bytes (lookup fs) (lookup (put fs i bytes))
Puts-put fs i name bytes differ within is = record {
  here = ap (lookup (put fs i bytes)) (sym is) ∙ lookup-put_here fs i bytes differ within;
  elsewhere = λ other ne. lookup-put_other fs i bytes other (λ same. ne (sym same ∙ is));
}

Puts-add : (fs : List MemFile) (f : MemFile) → lookup fs f.name ≡ None → Puts f.name f.bytes (lookup fs) (lookup (fs ++ f ∷ []))
Puts-add fs f none = record {
  here = lookup-add_here fs f none;
  elsewhere = λ other ne. lookup-add_other fs f other (λ same. ne (sym same));
}

-- what is left of the file that is read
pub left-reading : (m : MemState) (i at : ℕ) → m.reading ≡ Some (i, at) → AllNamesDiffer m.files → i < length m.files → left (folder_state m) ≡ drop at (bytes_at m.files i)
left-reading m i at reading differ within =
    let name_is : name_of_reading m.files m.reading ≡ name_at m.files i = ap (name_of_reading m.files) reading in
    let place_is : place_of_reading m.reading ≡ at = ap place_of_reading reading in
    let bytes_is : content_of (lookup m.files) (name_of_reading m.files m.reading) ≡ bytes_at m.files i = ap (content_of (lookup m.files)) name_is ∙ ap (λ o. unwrap_or o []) (lookup-name_at m.files i differ within) in
    ap (λ p. drop p (content_of (lookup m.files) (name_of_reading m.files m.reading))) place_is ∙ ap (drop at) bytes_is

-- the file of that name is opened
pub open_there : {T : Type 0} (m : MemState) (i opens : ℕ) (name : List ℕ) (x : T) → HasName m.files i name → AllNamesDiffer m.files → Opens (folder_state m) (folder_state (record m { reading = Some (i, 0); opens = opens })) name (Ok x)
open_there m i opens name x has differ = record {
  call = record { kind = record { told = refl; may_fail_reading = refl; may_fail_writing = refl }; count = record { kept = omega arith; ends = omega arith }; no_fault = λ _. refl; other_count = refl; files = refl; writing = record { created = refl; writing = refl } };
  ok = record {
    opened = refl;
    there = λ _. (bytes_at m.files i, ap (lookup m.files) (sym has.1) ∙ lookup-name_at m.files i differ has.0);
    reading = λ _. has.1;
    place = λ _. refl;
  };
  quiet = refl;
  missing = λ e. cc;
  failed = λ e. cc;
  err = tt;
}

-- the next bytes are given
pub read_some : (m : MemState) (i at n reads : ℕ) (into : List ℕ) → m.reading ≡ Some (i, at) → AllNamesDiffer m.files → i < length m.files → 0 < m.chunk → n ≡ min (min (length (drop at (bytes_at m.files i))) (length into)) m.chunk → take n into ≡ take n (drop at (bytes_at m.files i)) → Reads (folder_state m) (folder_state (record m { reading = Some (i, at + n); reads = reads })) into (Ok n)
read_some m i at n reads into reading differ within chunk count bytes =
    let left_is = left-reading m i at reading differ within in
    record {
      call = record { kind = record { told = refl; may_fail_reading = refl; may_fail_writing = refl }; count = record { kept = omega arith; ends = omega arith }; no_fault = λ _. refl; other_count = refl; files = refl; writing = record { created = refl; writing = refl } };
      opened = sym (ap is_some reading);
      reading = sym (ap (name_of_reading m.files) reading);
      within = omega (arith, count);
      given = λ _. record {
        there = omega (arith, count, ap length left_is);
        bytes = bytes ∙ ap (take n) (sym left_is);
        moved = ap (λ p. p + n) (sym (ap place_of_reading reading));
        end = λ some none. length-zero (left (folder_state m)) (omega (arith, count, chunk, some, none, ap length left_is));
      };
      quiet = refl;
      failed = tt;
      err = tt;
    } where
      length-zero : (xs : List ℕ) → length xs ≡ 0 → xs ≡ []
      length-zero [] e = refl
      length-zero (x ∷ xs) e = absurd (omega (arith, e))

-- bytes are appended to the file that is written
pub write_some : (m : MemState) (files : List MemFile) (i n writes : ℕ) (bytes : List ℕ) → m.writing ≡ Some i → i < length m.files → AllNamesDiffer m.files → files ≡ put m.files i (bytes_at m.files i ++ take n bytes) → n ≤ length bytes → (0 < length bytes → 0 < n) → WritesSome (folder_state m) (folder_state (record m { files = files; writes = writes })) bytes (Ok n)
write_some m files i n writes bytes writing within differ is fits some =
    let content : List ℕ = bytes_at m.files i ++ take n bytes in
    let name_is : name_of_writing m.files m.writing ≡ name_at m.files i = ap (name_of_writing m.files) writing in
    let bytes_is : content_of (lookup m.files) (name_of_writing m.files m.writing) ≡ bytes_at m.files i = ap (content_of (lookup m.files)) name_is ∙ ap (λ o. unwrap_or o []) (lookup-name_at m.files i differ within) in
    record {
      call = record {
        kind = record { told = refl; may_fail_reading = refl; may_fail_writing = refl };
        count = record { kept = omega arith; ends = omega arith };
        no_fault = λ _. refl;
        other_count = refl;
        opened = refl;
        reading = ap (λ fs. name_of_reading fs m.reading) is ∙ name_of_reading-put m.files i content m.reading;
      };
      place = refl;
      writing = record {
        created = refl;
        writing = ap (λ fs. name_of_writing fs m.writing) is ∙ name_of_writing-put m.files i content m.writing;
      };
      within = fits;
      some = some;
      appended = λ _. rw is (rw bytes_is (Puts-put m.files i (name_of_writing m.files m.writing) content differ within (sym name_is)));
      quiet = refl;
      failed = tt;
      err = tt;
    }

is_some-restart : (r : Option (ℕ × ℕ)) (i : ℕ) → is_some (restart r i) ≡ is_some r
is_some-restart None i = refl
is_some-restart (Some r) i = elim (r.0 == i) as (λ b. is_some (cond b (Some (i, 0)) (Some r)) ≡ true) [ true ↦ refl | false ↦ refl ]

name_of_reading-restart : (fs : List MemFile) (r : Option (ℕ × ℕ)) (i : ℕ) → name_of_reading fs (restart r i) ≡ name_of_reading fs r
name_of_reading-restart fs None i = refl
name_of_reading-restart fs (Some r) i = at (r.0 == i) refl where
  at : (b : Bool) → (r.0 == i) ≡ b → name_of_reading fs (cond b (Some (i, 0)) (Some r)) ≡ name_at fs r.0
  at true t = ap (name_at fs) (sym ((Decides-eqb r.0 i).0 t))
  at false f = refl

-- another file is read
place_of_reading-restart_other : (fs : List MemFile) (r : Option (ℕ × ℕ)) (i : ℕ) → name_of_reading fs r ≢ name_at fs i → place_of_reading (restart r i) ≡ place_of_reading r
place_of_reading-restart_other fs None i ne = refl
place_of_reading-restart_other fs (Some r) i ne = at (r.0 == i) refl where
  at : (b : Bool) → (r.0 == i) ≡ b → place_of_reading (cond b (Some (i, 0)) (Some r)) ≡ r.1
  at true t = absurd (ne (ap (name_at fs) ((Decides-eqb r.0 i).0 t)))
  at false f = refl

-- that very file is read
place_of_reading-restart : (fs : List MemFile) (r : Option (ℕ × ℕ)) (i : ℕ) → AllNamesDiffer fs → i < length fs → IfSome r (λ p. p.0 < length fs) → name_of_reading fs r ≡ name_at fs i → place_of_reading (restart r i) ≡ 0
place_of_reading-restart fs None i differ within inside same = refl
place_of_reading-restart fs (Some r) i differ within inside same =
    let is : r.0 ≡ i = name_at-injective fs r.0 i differ inside within same in
    rw (eq-eqb r.0 i is) refl

-- the file of that name is emptied
pub create_there : {T : Type 0} (m : MemState) (files : List MemFile) (reading : Option (ℕ × ℕ)) (i creates : ℕ) (name : List ℕ) (x : T) → HasName m.files i name → AllNamesDiffer m.files → IfSome m.reading (λ p. p.0 < length m.files) → files ≡ put m.files i [] → reading ≡ restart m.reading i → Creates (folder_state m) (folder_state (record m { files = files; reading = reading; writing = Some i; creates = creates })) name (Ok x)
create_there m files reading i creates name x has differ inside is again =
    let names_are : name_of_reading files reading ≡ name_of_reading m.files m.reading = ap (name_of_reading files) again ∙ ap (λ fs. name_of_reading fs (restart m.reading i)) is ∙ name_of_reading-put m.files i [] (restart m.reading i) ∙ name_of_reading-restart m.files m.reading i in
    record {
      call = record {
        kind = record { told = refl; may_fail_reading = refl; may_fail_writing = refl };
        count = record { kept = omega arith; ends = omega arith };
        no_fault = λ _. refl;
        other_count = refl;
        opened = ap is_some again ∙ is_some-restart m.reading i;
        reading = names_are;
      };
      ok = record {
        created = refl;
        writing = λ _. ap (λ fs. name_at fs i) is ∙ name_at-put m.files i i [] ∙ has.1;
        files = λ _. rw is (Puts-put m.files i name [] differ has.0 has.1);
        same_place = λ _ ne. ap place_of_reading again ∙ place_of_reading-restart_other m.files m.reading i (λ same. ne (same ∙ has.1));
        start = λ _ _ same. ap place_of_reading again ∙ place_of_reading-restart m.files m.reading i differ has.0 inside (same ∙ sym has.1);
      };
      quiet = refl;
      failed = tt;
      err = tt;
    }

name_of_reading-add : (fs : List MemFile) (f : MemFile) (r : Option (ℕ × ℕ)) → IfSome r (λ p. p.0 < length fs) → name_of_reading (fs ++ f ∷ []) r ≡ name_of_reading fs r
name_of_reading-add fs f None inside = refl
name_of_reading-add fs f (Some r) inside = name_at-add fs f r.0 inside

-- a name that is not there is not the one that is read
place_of_nothing : (fs : List MemFile) (r : Option (ℕ × ℕ)) (name : List ℕ) → AllNamesDiffer fs → lookup fs name ≡ None → IfSome r (λ p. p.0 < length fs) → name_of_reading fs r ≡ name → place_of_reading r ≡ 0
place_of_nothing fs None name differ none inside same = refl
place_of_nothing fs (Some r) name differ none inside same = absurd (not_there (lookup fs name) (ap (lookup fs) (sym same) ∙ lookup-name_at fs r.0 differ inside) none)

-- a new file is added
pub create_new : {T : Type 0} (m : MemState) (files : List MemFile) (i creates : ℕ) (name : List ℕ) (x : T) → lookup m.files name ≡ None → AllNamesDiffer m.files → IfSome m.reading (λ p. p.0 < length m.files) → files ≡ m.files ++ record { name = name; bytes = [] } ∷ [] → i ≡ length m.files → Creates (folder_state m) (folder_state (record m { files = files; writing = Some i; creates = creates })) name (Ok x)
create_new m files i creates name x none differ inside is last =
    let file : MemFile = record { name = name; bytes = [] } in
    record {
      call = record {
        kind = record { told = refl; may_fail_reading = refl; may_fail_writing = refl };
        count = record { kept = omega arith; ends = omega arith };
        no_fault = λ _. refl;
        other_count = refl;
        opened = refl;
        reading = ap (λ fs. name_of_reading fs m.reading) is ∙ name_of_reading-add m.files file m.reading inside;
      };
      ok = record {
        created = refl;
        writing = λ _. ap (λ fs. name_at fs i) is ∙ ap (name_at (m.files ++ file ∷ [])) last ∙ name_at-added m.files file;
        files = λ _. rw is (Puts-add m.files file none);
        same_place = λ _ ne. refl;
        start = λ _ _ same. place_of_nothing m.files m.reading name differ none inside same;
      };
      quiet = refl;
      failed = tt;
      err = tt;
    }

-- what is open stays there
pub inside-restart : (r : Option (ℕ × ℕ)) (i n : ℕ) → i < n → IfSome r (λ p. p.0 < n) → IfSome (restart r i) (λ p. p.0 < n)
inside-restart None i n within inside = tt
inside-restart (Some r) i n within inside = elim (r.0 == i) as (λ b. IfSome (cond b (Some (i, 0)) (Some r)) (λ p. p.0 < n)) [ true ↦ within | false ↦ inside ]

pub inside-more : {X : Type 0} (r : Option X) (f : X → ℕ) (n m : ℕ) → n ≤ m → IfSome r (λ p. f p < n) → IfSome r (λ p. f p < m)
inside-more None f n m le inside = tt
inside-more (Some r) f n m le inside = omega (arith, le, inside)
