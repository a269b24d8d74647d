use Rattle.std.proofs.Common.{subst, All, length, List, Option, MatchOption}
use Rattle.grid.specs.declared.shapes.Point.{Point}
use Rattle.grid.specs.Envelopes.{triangle_at}
use Rattle.mesh_types.specs.Insertion.{NamesFirst, IsUncovered}
use Rattle.mesh_store.specs.Parts.{mesh_in}
use Rattle.mesh_store.proofs.ForCallers.{well_formed}
use Rattle.insertion.specs.Bare.{IsBare, IsKept}
use Rattle.insertion.specs.Progress.{start_of}
use Rattle.cutting_rule.proofs.ForCallers.{uncovered-first, none-first, names-other}
use Rattle.insertion.proofs.Fresh.{fresh}
use Rattle.insertion.proofs.Starting.{bare-uncovered, kept-covered}
use Rattle.insertion.proofs.judging.judge_near.Goals as goal

pub returns-in-Some : goal.returns-in-Some
returns-in-Some c =
    let v = c.args.store.now in
    let m = mesh_in (start_of v) in
    let n = mesh_in v.parts in
    let env = c.args.env.now in
    let w = well_formed v.side (start_of v) c.requires.cut.sound in
    let h : NamesFirst n.points (IsBare n.points env c.args.e (length m.points)) n.tracked c.in-Some.corners =
    subst (λ k. NamesFirst n.points (IsBare n.points env c.args.e k) n.tracked c.in-Some.corners) c.requires.points
    (subst (λ (f : Option (List Point)). MatchOption f (All (IsKept n.points env c.args.e c.args.before.points) n.tracked) (NamesFirst n.points (IsBare n.points env c.args.e c.args.before.points) n.tracked)) c.in-Some.is c.in_ok-found.ensures) in
    uncovered-first env c.args.t c.args.e m n c.requires.cut.some_area c.requires.cut.within c.requires.positive c.requires.resolved c.requires.near c.in-Some.corners
    (names-other n.points (IsBare n.points env c.args.e (length m.points)) (IsUncovered n.points env c.args.e m.tracked) n.tracked c.in-Some.corners
    (bare-uncovered m n env c.args.e w (fresh m n (triangle_at env c.args.t) w c.requires.cut.mesh)) h)

pub returns-in-None : goal.returns-in-None
returns-in-None c =
    let v = c.args.store.now in
    let m = mesh_in (start_of v) in
    let n = mesh_in v.parts in
    let env = c.args.env.now in
    let w = well_formed v.side (start_of v) c.requires.cut.sound in
    let h : All (IsKept n.points env c.args.e (length m.points)) n.tracked =
    subst (λ k. All (IsKept n.points env c.args.e k) n.tracked) c.requires.points
    (subst (λ (f : Option (List Point)). MatchOption f (All (IsKept n.points env c.args.e c.args.before.points) n.tracked) (NamesFirst n.points (IsBare n.points env c.args.e c.args.before.points) n.tracked)) c.in-None.is c.in_ok-found.ensures) in
    record {
      none = none-first env c.args.t c.args.e m n c.requires.cut.some_area c.requires.cut.within c.requires.positive c.requires.resolved c.requires.near
          (kept-covered m n env c.args.e w (fresh m n (triangle_at env c.args.t) w c.requires.cut.mesh) h);
      faces_are = c.requires.faces;
      positive = c.requires.positive;
      near = c.requires.near;
      kept = h;
    }
