-- A text cut into its pieces.
use Rattle.std.specs.Prelude.{◌≡◌, ◌||◌, ◌&&◌, ◌++◌, ℕ, Bool, true, false, not, List, [], ◌∷◌, ◌==◌, filter, if◌then◌else◌}
use Rattle.dk_base.specs.declared.splitting.Cut.{Cut}
use Rattle.dk_base.specs.declared.splitting.Cut.TheVariants.{AtBlanksAndTabs, AtBlanksOutsideQuotes}
use Rattle.dk_base.specs.declared.splitting.Quoting.{Quoting}

abbrev pub is_empty : {X : Type 0} → List X → Bool
is_empty [] = true
is_empty (x ∷ xs) = false

-- a blank (32) or a tab (9)
abbrev pub is_blank : ℕ → Bool
is_blank b = (b == 32) || (b == 9)

-- in no quotes
abbrev pub outside : Quoting
outside = record { quoted = false; escaped = false }

-- where the next byte stands: a quote (34) opens and closes, and in quotes a backslash (92) takes the next byte with it
abbrev pub after_byte : Quoting → ℕ → Quoting
after_byte p b = record {
  quoted = if p.quoted then p.escaped || not (b == 34) else b == 34;
  escaped = p.quoted && (not p.escaped && b == 92);
}

-- the same, where quotes count
abbrev pub place_after : Cut → Quoting → ℕ → Quoting
place_after AtBlanksAndTabs p b = p
place_after AtBlanksOutsideQuotes p b = after_byte p b

-- whether the byte at this place cuts
abbrev pub cuts : Cut → Quoting → ℕ → Bool
cuts AtBlanksAndTabs p b = is_blank b
cuts AtBlanksOutsideQuotes p b = not p.quoted && b == 32

-- what stands in front of the first cut, and the parts between the cuts behind it
abbrev pub parts : Cut → Quoting → List ℕ → List ℕ × List (List ℕ)
parts cut p [] = ([], [])
parts cut p (b ∷ bs) =
    if cuts cut p b then ([], (parts cut outside bs).0 ∷ (parts cut outside bs).1)
    else (b ∷ (parts cut (place_after cut p b) bs).0, (parts cut (place_after cut p b) bs).1)

-- bytes in front of the first part
abbrev pub behind : List ℕ → List ℕ × List (List ℕ) → List ℕ × List (List ℕ)
behind front found = (front ++ found.0, found.1)

abbrev pub nonempty : List (List ℕ) → List (List ℕ)
nonempty texts = filter (λ t. not (is_empty t)) texts

-- the parts that are not empty
abbrev pub pieces_from : List ℕ × List (List ℕ) → List (List ℕ)
pieces_from found = nonempty (found.0 ∷ found.1)

-- the pieces of a text: the nonempty parts between its cuts
unfoldable pub pieces : Cut → List ℕ → List (List ℕ)
pieces cut text = pieces_from (parts cut outside text)

-- the text begins with no cut
abbrev pub BeginsPiece : Cut → List ℕ → Type 0
BeginsPiece cut [] = ⊥
BeginsPiece cut (b ∷ bs) = cuts cut outside b ≡ false
