-- One more kind of fault that is absent, and that what holds then leaves no such fault.
use Rattle.std.proofs.Common.{◌≡◌, ◌+◌, ◌<◌, ◌∙◌, inl, inr, arith}
use Rattle.std.proofs.lemmas.Bool.{cases_lt}
use Rattle.grid.specs.Boxes.{IsOnOneSide}
use Rattle.cert_check.specs.declared.fault.Fault.{Fault}
use Rattle.cert_check.specs.declared.fault.Fault.TheVariants as faults
use Rattle.cert_check.specs.Faults.{Case, Holds, rank, side_of, mesh_in}
use Rattle.cert_check.specs.Passed.{Lacks, Passed}
use Rattle.cert_check.proofs.Turned.{turns, no_repeat, no_loose}

pub passed_none : (c : Case) → Passed c 0
passed_none c f lt = absurd (omega (arith, lt))

-- of one kind of fault the same is asked, whatever it carries
same_kind : (c : Case) (f g : Fault) → rank f ≡ rank g → Lacks c g → Lacks c f
same_kind c faults.Header faults.Header e h = h
same_kind c (faults.NotInBox m) (faults.NotInBox n) e h = h
same_kind c (faults.NotPositive m) (faults.NotPositive n) e h = h
same_kind c (faults.Twice m) (faults.Twice n) e h = h
same_kind c (faults.Loose m) (faults.Loose n) e h = h
same_kind c (faults.Volume m) (faults.Volume n) e h = h
same_kind c (faults.NotAFace m) (faults.NotAFace n) e h = h
same_kind c (faults.NotCovered m) (faults.NotCovered n) e h = h
same_kind c (faults.Region m) (faults.Region n) e h = h
same_kind c (faults.TriangleLines m) (faults.TriangleLines n) e h = h
same_kind c f g e h = absurd (omega (arith, e))

pub passed_more : (c : Case) (g : Fault) → Passed c (rank g) → Lacks c g → Passed c (rank g + 1)
passed_more c g h x f lt = elim (cases_lt (rank f) (rank g)) [
  | inl below ↦ h f below
  | inr other ↦ same_kind c f g (omega (arith, lt, other)) x
]

pub lacks_none : (c : Case) (f : Fault) → Lacks c f → ¬ Holds c f
lacks_none c faults.Header h = λ b. b h
lacks_none c (faults.NotInBox n) h = λ b. b.fails (h b.place b.within)
lacks_none c (faults.NotPositive n) h = λ b. b.fails (h b.place b.within)
lacks_none c (faults.Twice f) h = λ b. no_repeat _ f.0 (turns (mesh_in c).tets) h b
lacks_none c (faults.Loose f) h = λ b. no_loose (IsOnOneSide (mesh_in c).points (side_of c)) _ (turns (mesh_in c).tets) f.0 h b.1
lacks_none c (faults.Volume s) h = λ b. b.1 (b.0 ∙ h)
lacks_none c (faults.NotAFace n) h = λ b. b.fails (h b.place b.within)
lacks_none c (faults.NotCovered n) h = λ b. b.fails (h b.place b.within)
lacks_none c (faults.Region n) h = λ b. b.fails (h b.place b.within)
lacks_none c (faults.TriangleLines n) h = λ b. b.1 h

rank_few : (f : Fault) → rank f < 10
rank_few faults.Header = omega arith
rank_few (faults.NotInBox n) = omega arith
rank_few (faults.NotPositive n) = omega arith
rank_few (faults.Twice f) = omega arith
rank_few (faults.Loose f) = omega arith
rank_few (faults.Volume s) = omega arith
rank_few (faults.NotAFace n) = omega arith
rank_few (faults.NotCovered n) = omega arith
rank_few (faults.Region n) = omega arith
rank_few (faults.TriangleLines n) = omega arith

pub none_passed : (c : Case) → Passed c 10 → (f : Fault) → ¬ Holds c f
none_passed c h f = lacks_none c f (h f (rank_few f))

pub none_below-passed : (c : Case) (f : Fault) → Passed c (rank f) → (g : Fault) → rank g < rank f → ¬ Holds c g
none_below-passed c f h g lt = lacks_none c g (h g lt)
