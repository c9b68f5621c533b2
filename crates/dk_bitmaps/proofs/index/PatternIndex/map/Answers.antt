use Rattle.std.proofs.Common.{rules, Err, List, Ok, ap, get_or, subst, sym, ◌≡◌, ◌∙◌, ℕ}
use Rattle.std.proofs.lemmas.Cmp.{ranked}
use Rattle.std.proofs.lemmas.List.Sorted.{answers_always}
use Rattle.std.specs.Global.{Vec}
use Rattle.dk_base.specs.declared.kinds.VarId.{VarId}
use Rattle.dk_presence.proofs.Finding.{found}
use Rattle.dk_presence.specs.Patterns.{has}
use Rattle.dk_presence.specs.declared.held.Held.{Held}
use Rattle.dk_bitmaps.specs.Bitmaps.{IsBitmap}
use Rattle.dk_bitmaps.proofs.index.PatternIndex.map.Goals as goal

pub returns-in-Ok-clause-map : goal.returns-in-Ok-clause-map
returns-in-Ok-clause-map c =
    let facts = c.in-Ok.ensures in
    let found = facts.position (λ w. w.0) (answers_always _ _ _ (λ f a r g called. search rules)) in
    let v = c.args.v in
    let place = c.in-Ok.place in
    let held = c.self.inside.presence.now in
    let none : VarId = record { 0 = 0 } in
    let is : get_or c.self.inside.leaders.now place none ≡ v = ap (λ n. record { 0 = n }) (ranked _ v.0 _ (sym (found none))) in
    let view : held ≡ c.args.self.now.held = search rules in
    let map : Vec ℕ = c.index.result.now in
    let at : map ≡ get_or c.self.inside.maps.items place map = search rules in
    let words : c.as_slice.result.now ≡ map.items = search rules in
    let there = c.self.invariant.1.each place map facts.bound in
    subst (λ (hs : List Held). IsBitmap hs (λ h. has h.leaders v) c.as_slice.result.now) view
    (subst (IsBitmap held (λ h. has h.leaders v)) (ap (λ (m : Vec ℕ). m.items) (sym at) ∙ sym words)
    (subst (λ (w : VarId). IsBitmap held (λ h. has h.leaders w) (get_or c.self.inside.maps.items place map).items) is there))

pub returns-in-Ok-clause-there : goal.returns-in-Ok-clause-there
returns-in-Ok-clause-there c =
    let facts = c.in-Ok.ensures in
    let by_key = facts.position (λ w. w.0) (answers_always _ _ _ (λ f a r g called. search rules)) in
    let view : c.self.inside.leaders.now ≡ c.args.self.now.leaders = search rules in
    found c.self.inside.leaders.now c.self.invariant.0 c.args.v (Ok c.in-Ok.place) facts.bound by_key ∙ ap (λ (vs : List VarId). has vs c.args.v) view

pub returns-in-Err-clause-there : goal.returns-in-Err-clause-there
returns-in-Err-clause-there c =
    let facts = c.in-Err.ensures in
    let by_key = facts.position (λ w. w.0) (answers_always _ _ _ (λ f a r g called. search rules)) in
    let view : c.self.inside.leaders.now ≡ c.args.self.now.leaders = search rules in
    found c.self.inside.leaders.now c.self.invariant.0 c.args.v (Err c.in-Err.field-0) facts.bound by_key ∙ ap (λ (vs : List VarId). has vs c.args.v) view
