use Rattle.local_ops.proofs.foreseeing.foresee.Goals as goal

pub returns-in-Split : goal.returns-in-Split
returns-in-Split c = rw c.in-Split.is c.see_split.ensures

pub returns-in-Shift : goal.returns-in-Shift
returns-in-Shift c = rw c.in-Shift.is c.see_shift.ensures

pub returns-in-Collapse : goal.returns-in-Collapse
returns-in-Collapse c = rw c.in-Collapse.is c.see_collapse.ensures

pub returns-in-FaceSwap : goal.returns-in-FaceSwap
returns-in-FaceSwap c = rw c.in-FaceSwap.is c.see_face_swap.ensures
