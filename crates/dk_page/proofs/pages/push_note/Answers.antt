use Rattle.std.proofs.Common.{◌++◌, ℕ, List, ap, codes, decimal, length}
use Rattle.std.proofs.lemmas.Result.{on_ok_weaker}
use Rattle.dk_page.specs.Pages.{samples_note}
use Rattle.dk_page.specs.declared.pages.PageLine.{PageLine}
use Rattle.dk_page.proofs.Adding.{more, more_as}
use Rattle.dk_page.proofs.pages.push_note.Goals as goal

pub returns : goal.returns
returns c =
    let old : List ℕ = c.args.text.now in
    let s = c.args.section.now in
    let one : List ℕ = codes " <small>" in
    let two : List ℕ = one ++ samples_note s.samples in
    let three : List ℕ = two ++ codes "lines <b>" in
    let four : List ℕ = three ++ decimal (length s.lines) in
    let noted = more old one (samples_note s.samples) c.append.new.self c.push_samples_note.new.text c.in_ok-append.ensures.ok c.in_ok-push_samples_note.ensures in
    let lines = more old two (codes "lines <b>") c.push_samples_note.new.text c.append-2.new.self noted c.in_ok-append-2.ensures.ok in
    let counted = more_as old three (decimal (length s.lines)) (decimal (length c.as_slice.result.now)) c.append-2.new.self c.push_len.new.text lines
    c.in_ok-push_len.ensures (ap (λ (ls : List PageLine). decimal (length ls)) c.as_slice.ensures) in
    on_ok_weaker c.append-3.result
    (λ last. more old four (codes "</b></small>") c.push_len.new.text c.append-3.new.self counted last) c.append-3.ensures.ok
