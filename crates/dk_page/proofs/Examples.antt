-- Texts, ids and a section of a page, worked.
use Rattle.std.proofs.Common.{◌≡◌, [], ◌∷◌, Some, codes, refl}
use Rattle.std.specs.Char.{encode_utf8}
use Rattle.std.specs.Fmt.{digits}
use Rattle.std.specs.Str.{chars, is_utf8}
use Rattle.dk_page.specs.Groups.{group_of, row_groups}
use Rattle.dk_page.specs.Ids.{id_after}
use Rattle.dk_page.specs.Pages.{section}
use Rattle.dk_page.specs.Showing.{shown_name, shown_text}
use Rattle.dk_page.specs.declared.groups.Group.TheVariants as group

signs : shown_text (codes "a <= b") ≡ codes "a &lt;= b"
unfolding chars is_utf8 encode_utf8
signs = refl

-- a byte that is no UTF-8
byte : shown_text (255 ∷ 46 ∷ []) ≡ codes "<var>\\xff</var>."
unfolding chars is_utf8 encode_utf8
byte = refl

name : shown_name (codes "A.b") ≡ codes "A.<wbr>b"
unfolding chars is_utf8 encode_utf8
name = refl

-- the second section of a name
second : id_after (codes "A&b" ∷ codes "B" ∷ []) (codes "A&b") ≡ codes "A&amp;b%~2"
unfolding digits
second = refl

blank : id_after [] (codes "a b") ≡ codes "a%20b"
blank = refl

-- row 2 says a least value
bound : group_of (Some (record { 0 = 2 })) (codes "x >= 1") ≡ group.Bounds
unfolding row_groups
bound = refl

small : section (record {
  id = codes "P";
  point = codes "P";
  samples = Some 6;
  lines = record { text = codes "x >= 1"; samples = Some 6; group = group.Bounds }
      ∷ record { text = codes "y > x"; samples = Some 4; group = group.Other }
      ∷ [];
}) ≡ codes "<section id=\"P\">\n<h2><a href=\"#P\">P</a> <small>samples <b>6</b> lines <b>2</b></small></h2>\n<div>\n<h3>Bounds</h3>\n<ul>\n<li><code>x &gt;= 1</code><i>6</i></li>\n</ul>\n</div>\n<div>\n<h3>Other lines</h3>\n<ul>\n<li><code>y &gt; x</code><b>4</b></li>\n</ul>\n</div>\n</section>\n"
unfolding chars is_utf8 encode_utf8 digits
small = refl
