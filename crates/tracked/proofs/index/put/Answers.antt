use Rattle.std.proofs.Common.{rules, ◌∙◌, ap, Some}
use Rattle.tracked.specs.Places.{and_last, numbers_in}
use Rattle.tracked.proofs.PlaceLemmas.{IsChangedAt-written, IsChangedAt-inserted, IsSame-written}
use Rattle.tracked.proofs.index.put.Goals as goal

pub returns-in_err-push-clause-err : goal.returns-in_err-push-clause-err
returns-in_err-push-clause-err c =
    let v = c.in-Some.ensures.value in
    let h = c.get_mut.follows.holds c.push.new.self in
    let kept = IsSame-written c.args.point c.args.index.now (c.get_mut.follows.lender c.push.new.self) (Some c.push.new.self) (ap (λ w. w.items) c.in_err-push.ensures.err ∙ ap numbers_in v) (h.3 (search rules)).0 in
    search (rules, kept)

pub returns-in-Some-clause-ok : goal.returns-in-Some-clause-ok
returns-in-Some-clause-ok c =
    let v = c.in-Some.ensures.value in
    let h = c.get_mut.follows.holds c.push.new.self in
    IsChangedAt-written c.args.point c.args.index.now (c.get_mut.follows.lender c.push.new.self) (and_last c.args.place) c.push.new.self (c.in_ok-push.ensures.ok ∙ ap (λ o. and_last c.args.place (numbers_in o)) v) (h.3 (search rules)).0

pub returns-clause-ok : goal.returns-clause-ok
returns-clause-ok c =
    let v = c.in_default.ensures.value in
    IsChangedAt-inserted c.args.point c.args.index.now c.get_mut.follows.lender-at-none c.insert.new.self (and_last c.args.place) c.push-2.new.self (c.in_ok-push-2.ensures.ok ∙ ap (and_last c.args.place) (c.new-list.ensures.items ∙ ap numbers_in v)) c.get_mut.follows.holds-at-none c.in-Ok.ensures.updates.0
