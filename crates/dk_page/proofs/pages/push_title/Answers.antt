use Rattle.std.proofs.Common.{◌++◌, ℕ, List, codes}
use Rattle.std.proofs.lemmas.Result.{on_ok_weaker}
use Rattle.dk_page.specs.Pages.{link, note}
use Rattle.dk_page.proofs.Adding.{more, more_as}
use Rattle.dk_page.proofs.pages.push_title.Goals as goal

pub returns : goal.returns
returns c =
    let old : List ℕ = c.args.text.now in
    let s = c.args.section.now in
    let one : List ℕ = codes "<section id=\"" in
    let two : List ℕ = one ++ s.id in
    let three : List ℕ = two ++ codes "\">\n<h2>" in
    let four : List ℕ = three ++ link s in
    let five : List ℕ = four ++ note s in
    let named = more_as old one s.id c.as_slice.result.now c.append.new.self c.append-2.new.self c.in_ok-append.ensures.ok c.in_ok-append-2.ensures.ok
    c.as_slice.ensures in
    let opened = more old two (codes "\">\n<h2>") c.append-2.new.self c.append-3.new.self named c.in_ok-append-3.ensures.ok in
    let linked = more old three (link s) c.append-3.new.self c.push_link.new.text opened c.in_ok-push_link.ensures in
    let noted = more old four (note s) c.push_link.new.text c.push_note.new.text linked c.in_ok-push_note.ensures in
    on_ok_weaker c.append-4.result
    (λ last. more old five (codes "</h2>\n") c.push_note.new.text c.append-4.new.self noted last) c.append-4.ensures.ok
