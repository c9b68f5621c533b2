-- A report as a page.
use Rattle.std.specs.Prelude.{◌==◌, ◌++◌, ℕ, Bool, false, List, [], Option, Some, None, codes, decimal, filter, flat_map, if◌then◌else◌, length}
use Rattle.std.specs.List.{list_any}
use Rattle.dk_page.specs.Groups.{groups, heading, place_of}
use Rattle.dk_page.specs.Parts.{foot, head, middle}
use Rattle.dk_page.specs.Showing.{shown_name, shown_text}
use Rattle.dk_page.specs.declared.groups.Group.{Group}
use Rattle.dk_page.specs.declared.pages.PageLine.{PageLine}
use Rattle.dk_page.specs.declared.pages.PageSection.{PageSection}

-- ---- lines
-- this is the number of samples of the section
abbrev pub is_all : Option ℕ → ℕ → Bool
is_all None n = false
is_all (Some all) n = n == all

-- a line's number of samples, which is bold where it isn't that of the section
abbrev pub number : Option ℕ → Option ℕ → List ℕ
number here None = []
number here (Some n) =
    if is_all here n then codes "<i>" ++ decimal n ++ codes "</i>" else codes "<b>" ++ decimal n ++ codes "</b>"

abbrev pub item : Option ℕ → PageLine → List ℕ
item here line = codes "<li><code>" ++ shown_text line.text ++ codes "</code>" ++ number here line.samples ++ codes "</li>\n"

-- ---- groups
abbrev pub is_of : Group → PageLine → Bool
is_of g line = place_of line.group == place_of g

abbrev pub items : Option ℕ → Group → List PageLine → List ℕ
items here g lines = flat_map (item here) (filter (is_of g) lines)

abbrev pub has_lines : Group → List PageLine → Bool
has_lines g lines = list_any (is_of g) lines

-- the lines of a group under its name
abbrev pub titled : Option ℕ → List PageLine → Group → List ℕ
titled here lines g = codes "<div>\n<h3>" ++ heading g ++ codes "</h3>\n<ul>\n" ++ items here g lines ++ codes "</ul>\n</div>\n"

-- if there are such
abbrev pub part : Option ℕ → List PageLine → Group → List ℕ
part here lines g = if has_lines g lines then titled here lines g else []

-- ---- sections
abbrev pub link : PageSection → List ℕ
link s = codes "<a href=\"#" ++ s.id ++ codes "\">" ++ shown_name s.point ++ codes "</a>"

-- the row of a section in the list of points
abbrev pub samples_cell : Option ℕ → List ℕ
samples_cell None = []
samples_cell (Some n) = decimal n

abbrev pub cells : PageSection → List ℕ
cells s = codes "<td>" ++ samples_cell s.samples ++ codes "</td><td>" ++ decimal (length s.lines) ++ codes "</td>"

abbrev pub row : PageSection → List ℕ
row s = codes "<tr><td>" ++ link s ++ codes "</td>" ++ cells s ++ codes "</tr>\n"

-- the numbers behind its name
abbrev pub samples_note : Option ℕ → List ℕ
samples_note None = []
samples_note (Some n) = codes "samples <b>" ++ decimal n ++ codes "</b> "

abbrev pub note : PageSection → List ℕ
note s = codes " <small>" ++ samples_note s.samples ++ codes "lines <b>" ++ decimal (length s.lines) ++ codes "</b></small>"

abbrev pub title : PageSection → List ℕ
title s = codes "<section id=\"" ++ s.id ++ codes "\">\n<h2>" ++ link s ++ note s ++ codes "</h2>\n"

abbrev pub section : PageSection → List ℕ
section s = title s ++ flat_map (part s.samples s.lines) groups ++ codes "</section>\n"

-- ---- the page
-- The list of the points, and then each point with its lines.
abbrev pub page : List PageSection → List ℕ
page sections = head ++ flat_map row sections ++ middle ++ flat_map section sections ++ foot
