use Rattle.std.specs.Prelude.{◌<◌}
use Rattle.std.proofs.Common.{◌∙◌, arith, sym}
use Rattle.dk_merging.proofs.EnginesOfBoth.{first_alone, joined_alone, second_alone}
use Rattle.dk_merging.proofs.engines.engine_of_both.Goals as goal

pub returns-then-counts-eq0-clause-both : goal.returns-then-counts-eq0-clause-both
returns-then-counts-eq0-clause-both c =
    first_alone c.args.first c.args.second c.tell_sound.ensures c.tell_sound-2.ensures (sym c.counts.ensures.samples ∙ c.if-counts-eq0.true)

pub returns-then-counts-eq0-2-clause-both : goal.returns-then-counts-eq0-2-clause-both
returns-then-counts-eq0-2-clause-both c =
    let more : 0 < c.args.second.kept.samples = omega (arith, c.counts.ensures.samples, c.if-counts-eq0.false) in
    second_alone c.args.first c.args.second c.tell_sound.ensures c.tell_sound-2.ensures c.requires (sym c.counts-2.ensures.samples ∙ c.if-counts-eq0-2.true) more

pub join-requires : goal.join-requires
join-requires c = record {
  alike = c.requires;
  first = omega (arith, c.counts-2.ensures.samples, c.if-counts-eq0-2.false);
  second = omega (arith, c.counts.ensures.samples, c.if-counts-eq0.false);
}

pub returns-clause-both : goal.returns-clause-both
returns-clause-both c =
    let some : 0 < c.args.first.kept.samples = omega (arith, c.counts-2.ensures.samples, c.if-counts-eq0-2.false) in
    let more : 0 < c.args.second.kept.samples = omega (arith, c.counts.ensures.samples, c.if-counts-eq0.false) in
    let made = c.join.ensures in
    joined_alone c.args.first c.args.second c.tell_sound.ensures c.tell_sound-2.ensures some more c.join.result made.grammar made.infos made.parts made.saved made.stands

pub returns-clause-none : goal.returns-clause-none
returns-clause-none c e = record {
  first_sound = c.tell_sound.ensures;
  second_sound = c.tell_sound-2.ensures;
  first_some = omega (arith, c.counts-2.ensures.samples, c.if-counts-eq0-2.false);
  second_some = omega (arith, c.counts.ensures.samples, c.if-counts-eq0.false);
  none = c.join.ensures.joined e;
  many = λ samples others are few. c.join.ensures.few samples others are few e;
}
