use Rattle.std.proofs.Common.{◌≡◌, ◌∙◌, ◌+◌, ◌*◌, ◌≤◌, List, length, All, ap, refl, sym, subst, rules, arith}
use Rattle.grid.specs.declared.shapes.Point.{Point}
use Rattle.grid.specs.declared.shapes.Tet.{Tet}
use Rattle.grid.specs.Boxes.{IsInBox}
use Rattle.grid.specs.Determinants.{origin}
use Rattle.grid.specs.Limits.{largest_side, most_made, most_points}
use Rattle.grid.specs.Simplices.{IsTet}
use Rattle.grid.specs.Views.{corners_of}
use Rattle.mesh_types.specs.declared.cut.Cut.{Cut}
use Rattle.mesh_types.specs.CutLists.{AreCuts}
use Rattle.mesh_types.specs.Phases.{wanted_cuts}
use Rattle.mesh_types.specs.Refines.{new_pieces}
use Rattle.mesh_store.specs.Parts.{mesh_in}
use Rattle.mesh_store.proofs.ForCallers.{well_formed}
use Rattle.cutting_rule.proofs.ForCallers.{wanted_cuts-AreCuts}
use Rattle.insertion.specs.Lasting.{points_with}
use Rattle.insertion.proofs.Early.{foreseen-tets, pieces-there, points-inside}
use Rattle.mesh_types.specs.Insertion.{NamesFirst}
use Rattle.insertion.specs.Lasting.{IsLastingFault}
use Rattle.insertion.proofs.NearTets.{HasSignOff, HasPointSignOff}
use Rattle.insertion.proofs.lasting.foresee_inverted.Goals as goal
use Rattle.insertion.proofs.lasting.foresee_inverted.Goals.{In-Ok}

pub pieces-requires-clause-cuts : goal.pieces-requires-clause-cuts
pieces-requires-clause-cuts c =
    let store = c.args.store.now in
    let w = well_formed store.side store.parts c.slots-slots.ensures.sound in
    subst (AreCuts (length store.parts.points)) (sym c.requires.cuts) (wanted_cuts-AreCuts (mesh_in store.parts) c.args.triangle.now 0 w.tets_are)

all-inside : (c : In-Ok) → All (IsInBox largest_side) (points_with c.slots-slots.result.now.points c.args.cuts.now)
all-inside c =
    let store = c.args.store.now in
    let w = well_formed store.side store.parts c.slots-slots.ensures.sound in
    let inside : All (IsInBox largest_side) c.slots-slots.result.now.points = search rules in
    let there : All (IsInBox largest_side) store.parts.points = subst (All (IsInBox largest_side)) c.slots-slots.ensures.points inside in
    let new : All (IsInBox largest_side) (points_with store.parts.points (wanted_cuts (mesh_in store.parts) c.args.triangle.now 0)) = points-inside (mesh_in store.parts) c.args.triangle.now origin origin w largest_side there in
    subst (λ (ps : List Point). All (IsInBox largest_side) (points_with ps c.args.cuts.now)) (sym c.slots-slots.ensures.points)
    (subst (λ (es : List Cut). All (IsInBox largest_side) (points_with store.parts.points es)) (sym c.requires.cuts) new)

pub pieces_have_corners_off-requires-clause-in_box : goal.pieces_have_corners_off-requires-clause-in_box
pieces_have_corners_off-requires-clause-in_box c = all-inside (goal.at.pieces_have_corners_off-requires-clause-in_box c).In-Ok

pub first_lasting-requires-clause-in_box : goal.first_lasting-requires-clause-in_box
first_lasting-requires-clause-in_box c = all-inside (goal.at.first_lasting-requires-clause-in_box c).In-Ok

pub first_lasting-requires-clause-tets : goal.first_lasting-requires-clause-tets
first_lasting-requires-clause-tets c =
    let store = c.args.store.now in
    let w = well_formed store.side store.parts c.slots-slots.ensures.sound in
    let is : corners_of c.deref.result.now ≡ new_pieces (mesh_in store.parts) c.args.cuts.now = ap corners_of c.deref.ensures.value ∙ c.in-Ok.ensures in
    subst (λ (ps : List Point). All (λ (x : Tet). IsTet (length ps + length c.args.cuts.now) x.0) c.deref.result.now) (sym c.slots-slots.ensures.points)
    (pieces-there (mesh_in store.parts) c.args.triangle.now w c.args.cuts.now c.deref.result.now c.requires.cuts is)

pub pieces_have_corners_off-requires-clause-tets : goal.pieces_have_corners_off-requires-clause-tets
pieces_have_corners_off-requires-clause-tets c =
    let store = c.args.store.now in
    let w = well_formed store.side store.parts c.slots-slots.ensures.sound in
    let ts = c.deref-else-not-have_corners_off.result.now in
    let is : corners_of ts ≡ new_pieces (mesh_in store.parts) c.args.cuts.now = ap corners_of c.deref-else-not-have_corners_off.ensures.value ∙ c.in-Ok.ensures in
    subst (λ (ps : List Point). All (λ (x : Tet). IsTet (length ps + length c.args.cuts.now) x.0) ts) (sym c.slots-slots.ensures.points)
    (pieces-there (mesh_in store.parts) c.args.triangle.now w c.args.cuts.now ts c.requires.cuts is)

pub returns : goal.returns
returns c =
    let store = c.args.store.now in
    let parts = store.parts in
    let t = c.args.triangle.now in
    let es = c.args.cuts.now in
    let ts = c.in-Ok.pieces.items in
    let named = c.in-Ok-Some.corners in
    let seen = c.slots-slots.result.now in
    let w = well_formed store.side parts c.slots-slots.ensures.sound in
    let olds : All HasSignOff c.args.near.now.slots.items = search rules in
    let off : All (λ (x : Tet). HasPointSignOff (points_with seen.points es) t x.0) c.deref-else-not-have_corners_off.result.now = c.if-not-pieces_have_corners_off.ensures refl in
    let news : All (λ (x : Tet). HasPointSignOff (points_with seen.points es) t x.0) ts = subst (All (λ (x : Tet). HasPointSignOff (points_with seen.points es) t x.0)) c.deref-else-not-have_corners_off.ensures.value off in
    let made : length parts.slots + length ts + 84 * (length c.args.near.now.slots.items + length ts) ≤ most_made =
    omega (arith, c.if-not-has_room-2.ensures.made refl, ap length c.slots-slots.ensures.slots, c.len-2.ensures, c.len-3.ensures) in
    let points : length parts.points + length es + 126 * (length c.args.near.now.slots.items + length ts) ≤ most_points =
    omega (arith, c.if-not-has_room-2.ensures.points refl, ap length c.slots-slots.ensures.points, c.len-2.ensures, c.len-3.ensures) in
    let first : NamesFirst (points_with seen.points es) (IsLastingFault (points_with seen.points es) t) (corners_of c.deref.result.now) named = search rules in
    let first_ts : NamesFirst (points_with seen.points es) (IsLastingFault (points_with seen.points es) t) (corners_of ts) named =
    subst (λ (xs : List Tet). NamesFirst (points_with seen.points es) (IsLastingFault (points_with seen.points es) t) (corners_of xs) named) c.deref.ensures.value first in
    foreseen-tets t parts c.args.near.now w c.requires.near es ts named c.requires.cuts c.in-Ok.ensures c.requires.positive olds
    (subst (λ (ps : List Point). All (λ (x : Tet). HasPointSignOff (points_with ps es) t x.0) ts) c.slots-slots.ensures.points news)
    made points
    (subst (λ (ps : List Point). NamesFirst (points_with ps es) (IsLastingFault (points_with ps es) t) (corners_of ts) named) c.slots-slots.ensures.points first_ts)
