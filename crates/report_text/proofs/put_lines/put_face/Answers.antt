use Rattle.std.specs.Prelude.{codes}
use Rattle.lines.specs.Fields.{space, feed, word}
use Rattle.lines.proofs.ForCallers.{put_more, put_last}
use Rattle.std.specs.List.{flat_map}
use Rattle.std.proofs.lemmas.Result.{on_ok_weaker}
use Rattle.report_text.specs.Text.{cert_text}
use Rattle.report_text.proofs.put_lines.put_face.Goals as goal

pub returns : goal.returns
returns c =
    on_ok_weaker c.put_cert.result (λ e.
    put_more _ _ (codes "f ") c.in_ok-put.ensures
    (put_more _ _ (flat_map (word space) c.args.covering.now.face.0) c.in_ok-put_numbers.ensures
    (put_last _ (cert_text 6 feed c.args.covering.now.cert) e))) c.put_cert.ensures
