-- The texts of inputs say one thing only.
use Rattle.std.proofs.Common.{◌≡◌, ℕ, List, Option, Result, Ok, Err, sym, subst, ◌∙◌}
use Rattle.lines.proofs.ForCallers.{text_once, text_or_bad}
use Rattle.soup.specs.declared.raw.Raw.{Raw}
use Rattle.msh_text.specs.Answers as msh
use Rattle.msh_text.proofs.ForCallers.{one_text}
use Rattle.report_text.specs.Rules.{report_rules}
use Rattle.report_text.proofs.ForCallers.{report_clear}
use Rattle.lines.specs.Whole.{IsText}
use Rattle.inputs.specs.Readings.{file}
use Rattle.inputs.specs.Texts.{SaysSoup, SaysMesh, SaysReport, soup_in, placed_soup, soup_file}
use Rattle.inputs.proofs.Ones.{IsOne, SaysOne, known-IsOne, file-IsOne, then-IsOne}

raw_same : (r : Result Raw (List ℕ)) (x y : Raw) → r ≡ Ok x → r ≡ Ok y → x ≡ y
raw_same r x y f g = cc

raw_apart : (r : Result Raw (List ℕ)) (x : Raw) (line : List ℕ) → r ≡ Ok x → r ≡ Err line → ⊥
raw_apart r x line f g = cc

pub soup-SaysOne : (digits : Option ℕ) → SaysOne (SaysSoup digits)
soup-SaysOne digits = record {
  same = λ bytes x y f g. raw_same _ x y f g;
  apart = λ bytes x line f g. raw_apart _ x line f g;
}

pub mesh-SaysOne : (d : ℕ) → SaysOne (SaysMesh d)
mesh-SaysOne d = record {
  same = λ bytes m n f g. one_text.one_mesh d m n f.rules g.rules (f.text ∙ sym g.text);
  apart = λ bytes m line f g. one_text.mesh_or_line d m g.0 f.rules (subst (λ bs. msh.BadLine d bs g.0) (sym f.text) g.1);
}

pub report-SaysOne : SaysOne SaysReport
report-SaysOne = record {
  same = λ bytes r s f g. text_once report_rules bytes r s report_clear (subst (λ bs. IsText report_rules bs r) f.text f.rules) (subst (λ bs. IsText report_rules bs s) g.text g.rules);
  apart = λ bytes r line f g. text_or_bad report_rules bytes r g.0 report_clear (subst (λ bs. IsText report_rules bs r) f.text f.rules) g.1;
}

pub soup_file-IsOne : (name : List ℕ) (digits : Option ℕ) (epsilon cells : ℕ) → IsOne (soup_file name digits epsilon cells)
soup_file-IsOne name digits epsilon cells = then-IsOne (file name (SaysSoup digits)) (placed_soup epsilon cells) (file-IsOne name (SaysSoup digits) (soup-SaysOne digits)) (λ raw. known-IsOne (soup_in epsilon cells raw))
