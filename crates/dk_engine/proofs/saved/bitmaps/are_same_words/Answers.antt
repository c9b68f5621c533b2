use Rattle.std.proofs.Common.{◌*◌, ◌∙◌, List, ap, arith, drop, length, refl, sym}
use Rattle.std.proofs.lemmas.Bool.{false≢true}
use Rattle.std.proofs.lemmas.List.{length-take}
use Rattle.dk_presence.specs.declared.held.Held.{Held}
use Rattle.dk_engine.specs.Saved.Bitmaps.{digits}
use Rattle.dk_engine.proofs.BitmapFacts.{all_same, not_same}
use Rattle.dk_engine.proofs.saved.bitmaps.are_same_words.Goals as goal

pub same_word-requires : goal.same_word-requires
same_word-requires c =
    let long = ap (λ (hs : List Held). length hs) c.block.ensures in
    let most = length-take 64 (drop (c.loop-j.j * 64) c.args.held.now) in
    omega (arith, long, most)

pub returns-then-words-j : goal.returns-then-words-j
returns-then-words-j c = λ v is. (
  λ f. absurd (false≢true f),
  λ all. absurd (not_same c.args.held.now v c.args.words.now c.args.present c.loop-j.j is c.loop-j-test.true
      (λ e. c.if-words-j.true (e ∙ sym (c.same_word.ensures ∙ ap (digits (λ _. c.args.present)) c.block.ensures))) all),
)

pub returns : goal.returns
returns c = λ v is.
    let past = c.loop-j-test.false in
    (λ _. all_same c.args.held.now v c.args.words.now c.args.present is (λ j l. c.loop-j.invariant j (omega (arith, past, l))), λ _. refl)
