-- What the name of a point says: its method, and its role in the calls of the method.
use Rattle.std.specs.Prelude.{ℕ, ◌+◌, Bool, true, false, ◌&&◌, nat_eq, nat_le, nat_lt, List, Option, codes, length, take, drop, filter, unwrap_or, None, Some, ◌++◌, bytes_eq, if◌then◌else◌}
use Rattle.std.specs.List.{last_or, list_all, range_with_len, starts_with}
use Rattle.dk_points.specs.declared.roles.Role.{Role}
use Rattle.dk_points.specs.declared.roles.Role.TheVariants.{Entry, Combined, Subexit, Plain}

-- whether `:::` stands at this place
abbrev pub is_separator : List ℕ → ℕ → Bool
is_separator name i = starts_with nat_eq (drop i name) (codes ":::")

-- the length of what stands in front of the last `:::`; a name without one is all method
unfoldable pub method_len : List ℕ → ℕ
method_len name = unwrap_or (last_or None (filter (is_separator name) (range_with_len 0 (length name)))) (length name)

-- what stands in front of the last `:::`
abbrev pub method_of : List ℕ → List ℕ
method_of name = take (method_len name) name

-- what stands behind it
abbrev pub tag_of : List ℕ → List ℕ
tag_of name = drop (method_len name + 3) name

abbrev pub is_digit : ℕ → Bool
is_digit b = nat_le 48 b && nat_le b 57

-- `EXIT` and one digit or more
abbrev pub is_subexit_tag : List ℕ → Bool
is_subexit_tag tag = starts_with nat_eq tag (codes "EXIT") && (nat_lt 4 (length tag) && list_all is_digit (drop 4 tag))

abbrev pub role_of_tag : List ℕ → Role
role_of_tag tag =
    if bytes_eq tag (codes "ENTER") then Entry
    else if bytes_eq tag (codes "EXIT") then Combined
    else if is_subexit_tag tag then Subexit
    else Plain

-- the role of a point, by its name
unfoldable pub role_of : List ℕ → Role
role_of name = role_of_tag (tag_of name)

abbrev pub is_subexit : Role → Bool
is_subexit Subexit = true
is_subexit _ = false

-- combined exits and subexits
abbrev pub is_exit : Role → Bool
is_exit Combined = true
is_exit Subexit = true
is_exit _ = false

-- the name of the method's entry
abbrev pub entry_name : List ℕ → List ℕ
entry_name name = method_of name ++ codes ":::ENTER"

-- the name of the method's combined exit
abbrev pub combined_name : List ℕ → List ℕ
combined_name name = method_of name ++ codes ":::EXIT"

-- the combined exit of a subexit, by name
abbrev pub combined_of : List ℕ → Option (List ℕ)
combined_of name = if is_subexit (role_of name) then Some (combined_name name) else None
