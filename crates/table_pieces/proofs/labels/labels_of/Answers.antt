use Rattle.std.proofs.Common.{◌≡◌, ◌∙◌, ℕ, arith, rules, ap}
use Rattle.cut_tables.specs.Cutting.{has_label}
use Rattle.table_pieces.proofs.Masks.{bits-are, looked-up}
use Rattle.table_pieces.proofs.Ranks.{four-members, up}
use Rattle.table_pieces.proofs.Searches.{passed-first, passed-second}
use Rattle.table_pieces.proofs.labels.labels_of.Goals as goal

pub returns : goal.returns
returns c =
    let m = c.mask.result in
    let bits = bits-are c.point_at-ab.result c.point_at-ac.result c.point_at-ad.result c.point_at-bc.result c.point_at-bd.result c.point_at-cd.result in
    let has : (label : ℕ) → has_label m label ≡ has_label _ label = λ label. ap (λ n. has_label n label) c.mask.ensures in
    record {
      corners_are = four-members c.args.corners (search rules);
      edges = (
        looked-up _ _ _ _ _ c.point_at-ab.result c.point_at-ab.ensures (has 4 ∙ bits.at4) c.number.ensures,
        (
          looked-up _ _ _ _ _ c.point_at-ac.result c.point_at-ac.ensures (has 5 ∙ bits.at5) c.number-2.ensures,
          (
            looked-up _ _ _ _ _ c.point_at-ad.result c.point_at-ad.ensures (has 6 ∙ bits.at6) c.number-3.ensures,
            (
              looked-up _ _ _ _ _ c.point_at-bc.result c.point_at-bc.ensures (has 7 ∙ bits.at7) c.number-4.ensures,
              (
                looked-up _ _ _ _ _ c.point_at-bd.result c.point_at-bd.ensures (has 8 ∙ bits.at8) c.number-5.ensures,
                (looked-up _ _ _ _ _ c.point_at-cd.result c.point_at-cd.ensures (has 9 ∙ bits.at9) c.number-6.ensures, tt),
              ),
            ),
          ),
        ),
      );
    }

pub place_near-place_ac-requires-clause-passed : goal.place_near-place_ac-requires-clause-passed
place_near-place_ac-requires-clause-passed c = passed-second _ _ _ c.args.cuts.now c.place_of-place_ab.result (up c.args.corners c.requires.rise 1 2 (omega arith) (search rules)) c.place_of-place_ab.ensures.place.0

pub place_near-place_ad-requires-clause-passed : goal.place_near-place_ad-requires-clause-passed
place_near-place_ad-requires-clause-passed c = passed-second _ _ _ c.args.cuts.now c.place_near-place_ac.result (up c.args.corners c.requires.rise 2 3 (omega arith) (search rules)) c.place_near-place_ac.ensures.place.0

pub place_of-place_bc-requires-clause-passed : goal.place_of-place_bc-requires-clause-passed
place_of-place_bc-requires-clause-passed c = passed-first _ _ _ _ c.args.cuts.now c.place_near-place_ad.result (up c.args.corners c.requires.rise 0 1 (omega arith) (search rules)) c.place_near-place_ad.ensures.place.0

pub place_near-place_bd-requires-clause-passed : goal.place_near-place_bd-requires-clause-passed
place_near-place_bd-requires-clause-passed c = passed-second _ _ _ c.args.cuts.now c.place_of-place_bc.result (up c.args.corners c.requires.rise 2 3 (omega arith) (search rules)) c.place_of-place_bc.ensures.place.0

pub place_of-place_cd-requires-clause-passed : goal.place_of-place_cd-requires-clause-passed
place_of-place_cd-requires-clause-passed c = passed-first _ _ _ _ c.args.cuts.now c.place_near-place_bd.result (up c.args.corners c.requires.rise 1 2 (omega arith) (search rules)) c.place_near-place_bd.ensures.place.0
