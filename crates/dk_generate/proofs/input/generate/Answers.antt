use Rattle.std.proofs.Common.{◌≡◌, ◌≤◌, ◌∙◌, ◌++◌, ap, arith, subst, sym}
use Rattle.dk_generate.specs.Generated.{calls_text, generated_text}
use Rattle.dk_generate.specs.Texts.{declarations}
use Rattle.dk_generate.specs.declared.calls.Turn.{Turn}
use Rattle.dk_generate.proofs.Turns.{height_fits, text_at_first, text_more, turn_more}
use Rattle.dk_generate.proofs.input.generate.Goals as goal

pub loop-done-init : goal.loop-done-init
loop-done-init c = record {
  turn = c.first_turn-turn.ensures;
  text = text_at_first c.args.n c.in_ok-text.text (c.in_ok-text.ensures ∙ c.as_bytes.ensures.value ∙ c.declarations.ensures);
}

pub drawn_call-call-requires : goal.drawn_call-call-requires
drawn_call-call-requires c = subst (λ (t : Turn). t.stack.height ≤ 8) (sym c.loop-done.invariant.turn) (height_fits c.args.n c.loop-done.done)

pub loop-done-preserved : goal.loop-done-preserved
loop-done-preserved c = record {
  turn = turn_more c.args.n c.loop-done.done c.loop-done.turn c.next_turn-turn.result c.loop-done.invariant.turn c.next_turn-turn.ensures;
  text = text_more c.args.n c.loop-done.done c.loop-done.turn c.drawn_call-call.result c.loop-done.text c.push_call.new.text
      c.loop-done.invariant.turn c.drawn_call-call.ensures.call c.loop-done.invariant.text c.in_ok-push_call.ensures;
}

pub returns : goal.returns
unfolding generated_text
returns c =
    let all : c.loop-done.done ≡ 10000 = omega arith in
    c.loop-done.invariant.text ∙ ap (λ k. declarations ++ calls_text c.args.n k) all
