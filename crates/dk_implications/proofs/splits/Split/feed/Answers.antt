use Rattle.std.specs.Prelude.{List}
use Rattle.std.specs.List.{AllZip}
use Rattle.std.proofs.Common.{ap, subst, sym}
use Rattle.dk_base.specs.Values.{values_of}
use Rattle.dk_base.specs.declared.kinds.VarInfo.{VarInfo}
use Rattle.dk_instances.specs.Laws.{IsSample}
use Rattle.dk_report.proofs.Reported.{if_ok}
use Rattle.dk_implications.proofs.Feeding.{fed_are, fed_stand}
use Rattle.dk_implications.specs.Standing.{AreAlike, AreFed, Engines, StandFor}
use Rattle.dk_implications.specs.declared.halves.Halves.{Halves}
use Rattle.dk_implications.proofs.splits.Split.feed.Goals as goal

pub invariant_of-self-2 : goal.invariant_of-self-2
invariant_of-self-2 c =
    let old : Engines = record { whole = c.self.inside.whole; halves = c.self.inside.halves.items } in
    let alike = subst (λ (hs : List Halves). AllZip AreAlike hs c.feed_all.new.all) c.as_mut_slice.ensures.value c.feed_all.ensures.alike in
    fed_are (values_of c.args.sample.now) old c.feed.new.self c.feed.ensures.grammar c.feed.ensures.infos c.feed_all.new.all c.self.inside.halves.len (sym c.self.inside.halves.ok.0) alike c.self.invariant

pub returns-clause-stand : goal.returns-clause-stand
returns-clause-stand c =
    let sample = values_of c.args.sample.now in
    let all = c.feed_all.new.all in
    let old : Engines = record { whole = c.self.inside.whole; halves = c.self.inside.halves.items } in
    let alike = subst (λ (hs : List Halves). AllZip AreAlike hs all) c.as_mut_slice.ensures.value c.feed_all.ensures.alike in
    let is : IsSample old.whole.infos sample = subst (λ (vars : List VarInfo). IsSample vars sample) (sym (ap (λ (e : Engines). e.whole.infos) c.self.view_is)) c.requires in
    if_ok c.feed_all.result (λ u. AllZip (AreFed sample) c.as_mut_slice.result.now all) _
    (λ u halves samples stand.
    fed_stand sample old c.feed.new.self c.feed.ensures.grammar c.feed.ensures.infos all c.self.inside.halves.len (sym c.self.inside.halves.ok.0) alike is c.in_ok-feed.ensures.stands
    (subst (λ (hs : List Halves). AllZip (AreFed sample) hs all) c.as_mut_slice.ensures.value halves) samples (subst (λ (e : Engines). StandFor e samples) (sym c.self.view_is) stand))
    c.feed_all.ensures.fed
