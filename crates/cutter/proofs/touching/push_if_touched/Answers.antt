use Rattle.std.proofs.Common.{◌≡◌, ◌∙◌, ◌++◌, ◌∷◌, [], Bool, false, cond, sym, ap}
use Rattle.std.proofs.lemmas.List.{append-nil}
use Rattle.cutting_rule.specs.Touching.{touch_of, touches}
use Rattle.cutter.proofs.TouchedSlots.{not-touched, one-touched}
use Rattle.cutter.proofs.touching.push_if_touched.Goals as goal

pub returns-in-None : goal.returns-in-None
returns-in-None c =
    let t = c.args.triangle.now in
    let corners = c.args.corners.now in
    let none : touches t corners ≡ false = not-touched (touches t corners) (touch_of t corners) (sym c.touch.ensures ∙ c.in-None.is) in
    sym (append-nil c.args.into.now.items)
    ∙ ap (λ (b : Bool). c.args.into.now.items ++ cond b (record { slot = c.args.slot; touch = touch_of t corners } ∷ []) []) (sym none)

pub returns-in_ok-push-in-Some : goal.returns-in_ok-push-in-Some
returns-in_ok-push-in-Some c =
    let t = c.args.triangle.now in
    let corners = c.args.corners.now in
    c.in_ok-push-in-Some.ensures.items
    ∙ ap (λ es. c.args.into.now.items ++ es) (one-touched (touches t corners) (touch_of t corners) c.in-Some.touch c.args.slot (sym c.touch.ensures ∙ c.in-Some.is))
