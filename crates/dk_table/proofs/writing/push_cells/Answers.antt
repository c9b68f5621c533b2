use Rattle.std.proofs.Common.{◌≡◌, ◌<◌, ◌≤◌, ◌+◌, ◌∙◌, ◌++◌, Bool, append-nil, ap, arith, false, flat_map, get_or, is_some, length, List, ℕ, subst, sym, take, true}
use Rattle.std.specs.List.{zip}
use Rattle.dk_table.proofs.Getting.{cell_read}
use Rattle.dk_table.proofs.Pairs.{zip_ends, zip_goes, zip_text, zip_text_all}
use Rattle.dk_table.proofs.Pushed.{pushed_cell, pushed_fits, pushed_none}
use Rattle.dk_table.proofs.Rowed.{all_fitted, line_past, line_there, one_unfit}
use Rattle.dk_table.specs.Columns.{cell_value}
use Rattle.dk_table.specs.Writing.Forms.{cell_lines, line_at, row_fits}
use Rattle.dk_table.specs.Writing.Pushing.{Pushes}
use Rattle.dk_table.specs.declared.writing.Heading.{Heading}
use Rattle.dk_table.proofs.writing.push_cells.Goals as goal

pub returns-then-not-fits : goal.returns-then-not-fits
returns-then-not-fits c =
    let form = c.args.form.now in
    let row = c.args.rows.now.row in
    let headings : List Heading = form.headings in
    let cells = row.cells in
    let i = c.loop-i.i in
    let lt : i < length headings = omega (arith, c.width-width.ensures, c.loop-i-test.true) in
    let more : i < length cells = omega (arith, c.width-width.ensures, c.loop-i-test.true) in
    let h : Heading = c.index-headings-i.result in
    let cell : List ℕ = c.cell.result.now in
    let first : h ≡ get_or headings i h = c.index-headings-i.is ∙ ap (λ (hs : List Heading). get_or hs i h) c.as_slice-headings.ensures in
    let old : List ℕ = c.loop-i.gathered.text.items in
    let new : List ℕ = c.push_cell.new.text.items in
    let pushed : Pushes (cell_value h.kind cell) c.tail-tail.result.now old new false =
    subst (λ (b : Bool). Pushes (cell_value h.kind cell) c.tail-tail.result.now old new b) c.if-not-fits.true
    (subst (λ (x : Heading). Pushes (cell_value x.kind cell) c.tail-tail.result.now old new c.in_ok-fits.fits) (sym c.index-headings-i.is) c.in_ok-fits.ensures) in
    let fits : is_some (cell_value h.kind cell) ≡ false = pushed_fits (cell_value h.kind cell) c.tail-tail.result.now old new false pushed in
    one_unfit (row_fits form row) (flat_map cell_lines (zip headings cells)) c.args.gathered.now.text.items new
    (flat_map cell_lines (take i (zip headings cells)) ++ line_at (take c.width-width.result headings) i)
    (zip_goes (λ (e : Heading × List ℕ). is_some (cell_value e.0.kind e.1)) headings cells i h cell false lt more first (cell_read row i cell more c.cell.ensures) fits c.loop-i.invariant.fit)
    (pushed_none (cell_value h.kind cell) c.tail-tail.result.now old new pushed ∙ c.loop-i.invariant.told)

pub loop-i-preserved : goal.loop-i-preserved
loop-i-preserved c =
    let row = c.args.rows.now.row in
    let headings : List Heading = c.args.form.now.headings in
    let cells = row.cells in
    let i = c.loop-i.i in
    let width = c.width-width.result in
    let under : i < width = omega (arith, c.loop-i-test.true) in
    let wide : width ≤ length headings = omega (arith, c.width-width.ensures) in
    let lt : i < length headings = omega (arith, c.width-width.ensures, c.loop-i-test.true) in
    let more : i < length cells = omega (arith, c.width-width.ensures, c.loop-i-test.true) in
    let h : Heading = c.index-headings-i.result in
    let cell : List ℕ = c.cell.result.now in
    let first : h ≡ get_or headings i h = c.index-headings-i.is ∙ ap (λ (hs : List Heading). get_or hs i h) c.as_slice-headings.ensures in
    let second : cell ≡ get_or cells i cell = cell_read row i cell more c.cell.ensures in
    let start : List ℕ = c.args.gathered.now.text.items in
    let old : List ℕ = c.loop-i.gathered.text.items in
    let new : List ℕ = c.push_cell.new.text.items in
    let front : List ℕ = flat_map cell_lines (take i (zip headings cells)) in
    let follows : List ℕ = line_at (take width headings) (i + 1) in
    let pushed : Pushes (cell_value h.kind cell) c.tail-tail.result.now old new true =
    subst (λ (b : Bool). Pushes (cell_value h.kind cell) c.tail-tail.result.now old new b) c.if-not-fits.false
    (subst (λ (x : Heading). Pushes (cell_value x.kind cell) c.tail-tail.result.now old new c.in_ok-fits.fits) (sym c.index-headings-i.is) c.in_ok-fits.ensures) in
    let fits : is_some (cell_value h.kind cell) ≡ true = pushed_fits (cell_value h.kind cell) c.tail-tail.result.now old new true pushed in
    record {
      told =
          pushed_cell h cell follows start front old new c.tail-tail.result.now pushed c.tail-tail.ensures
          (c.loop-i.invariant.told ∙ ap (λ (l : List ℕ). start ++ (front ++ l)) (line_there headings width i h under wide first))
          ∙ ap (λ (l : List ℕ). start ++ (l ++ follows)) (zip_text cell_lines headings cells i h cell lt more first second);
      fit = zip_goes (λ (e : Heading × List ℕ). is_some (cell_value e.0.kind e.1)) headings cells i h cell true lt more first second fits c.loop-i.invariant.fit;
    }

pub returns : goal.returns
returns c =
    let form = c.args.form.now in
    let row = c.args.rows.now.row in
    let headings : List Heading = form.headings in
    let cells = row.cells in
    let i = c.loop-i.i in
    let width = c.width-width.result in
    let start : List ℕ = c.args.gathered.now.text.items in
    let front : List ℕ = flat_map cell_lines (take i (zip headings cells)) in
    all_fitted (row_fits form row) (flat_map cell_lines (zip headings cells)) start c.loop-i.gathered.text.items
    (zip_ends (λ (e : Heading × List ℕ). is_some (cell_value e.0.kind e.1)) headings cells i (omega (arith, c.width-width.ensures, c.loop-i-test.false)) c.loop-i.invariant.fit)
    (zip_text_all cell_lines headings cells i start c.loop-i.gathered.text.items (omega (arith, c.width-width.ensures, c.loop-i-test.false))
    (c.loop-i.invariant.told ∙ ap (λ (l : List ℕ). start ++ (front ++ l)) (line_past headings width i (omega (arith, c.loop-i-test.false))) ∙ ap (λ (l : List ℕ). start ++ l) (append-nil front)))
