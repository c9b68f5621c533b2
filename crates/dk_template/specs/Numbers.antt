-- The numbers of the rows, by their names.
use Rattle.std.specs.Prelude.{ℕ}

-- the values of x
abbrev pub one_of_int : ℕ
one_of_int = 1

-- the least value of x
abbrev pub lower_bound : ℕ
lower_bound = 2

-- the greatest value of x
abbrev pub upper_bound : ℕ
upper_bound = 3

-- x isn't 0
abbrev pub non_zero : ℕ
non_zero = 4

-- the modulus of x
abbrev pub modulus : ℕ
modulus = 5

-- the value of x
abbrev pub one_of_bool : ℕ
one_of_bool = 6

-- the value of x
abbrev pub one_of_hash : ℕ
one_of_hash = 7

-- x isn't 0
abbrev pub non_null_hash : ℕ
non_null_hash = 8

-- the values of x
abbrev pub one_of_str : ℕ
one_of_str = 9

-- x isn't `null`
abbrev pub non_null_str : ℕ
non_null_str = 10

-- x = y
abbrev pub eq_int : ℕ
eq_int = 11

-- x differs from y
abbrev pub ne_int : ℕ
ne_int = 12

-- x < y
abbrev pub lt : ℕ
lt = 13

-- x <= y
abbrev pub le : ℕ
le = 14

-- the line through the points (x, y)
abbrev pub linear : ℕ
linear = 15

-- y isn't 0 and divides x
abbrev pub divides : ℕ
divides = 16

-- x = y * y
abbrev pub square : ℕ
square = 17

-- x = y
abbrev pub eq_bool : ℕ
eq_bool = 18

-- x differs from y
abbrev pub ne_bool : ℕ
ne_bool = 19

-- x = y
abbrev pub eq_hash : ℕ
eq_hash = 20

-- x differs from y
abbrev pub ne_hash : ℕ
ne_hash = 21

-- x = y
abbrev pub eq_str : ℕ
eq_str = 22

-- x differs from y
abbrev pub ne_str : ℕ
ne_str = 23

-- z = x + y
abbrev pub sum : ℕ
sum = 24

-- z = x - y
abbrev pub difference : ℕ
difference = 25

-- z = x * y
abbrev pub product : ℕ
product = 26

-- z is the smaller of x, y
abbrev pub minimum : ℕ
minimum = 27

-- z is the greater of x, y
abbrev pub maximum : ℕ
maximum = 28

-- y isn't 0, and z is x / y cut towards 0
abbrev pub quotient : ℕ
quotient = 29

-- y isn't 0, and z is the remainder of x / y cut towards 0
abbrev pub remainder : ℕ
remainder = 30

-- z is the bitwise and of x, y
abbrev pub and : ℕ
and = 31

-- z is the bitwise or of x, y
abbrev pub or : ℕ
or = 32

-- z is the bitwise exclusive or of x, y
abbrev pub xor : ℕ
xor = 33

-- z is the greatest common divisor of x, y
abbrev pub gcd : ℕ
gcd = 34

-- the elements of s
abbrev pub elt_one_of_int : ℕ
elt_one_of_int = 35

-- the least element of s
abbrev pub elt_lower : ℕ
elt_lower = 36

-- the greatest element of s
abbrev pub elt_upper : ℕ
elt_upper = 37

-- no element is 0
abbrev pub elt_non_zero : ℕ
elt_non_zero = 38

-- each element < the next
abbrev pub sorted_lt : ℕ
sorted_lt = 39

-- each element <= the next
abbrev pub sorted_le : ℕ
sorted_le = 40

-- each element > the next
abbrev pub sorted_gt : ℕ
sorted_gt = 41

-- each element >= the next
abbrev pub sorted_ge : ℕ
sorted_ge = 42

-- each element = the next
abbrev pub elts_equal : ℕ
elts_equal = 43

-- the element of s
abbrev pub elt_one_of_bool : ℕ
elt_one_of_bool = 44

-- the element of s
abbrev pub elt_one_of_hash : ℕ
elt_one_of_hash = 45

-- no element is 0
abbrev pub elt_non_null_hash : ℕ
elt_non_null_hash = 46

-- the elements of s
abbrev pub elt_one_of_str : ℕ
elt_one_of_str = 47

-- no element is `null`
abbrev pub elt_non_null_str : ℕ
elt_non_null_str = 48

-- x is an element of s
abbrev pub member_int : ℕ
member_int = 49

-- x is an element of s
abbrev pub member_hash : ℕ
member_hash = 50

-- x is an element of s
abbrev pub member_str : ℕ
member_str = 51

-- each element of s = x
abbrev pub elt_eq : ℕ
elt_eq = 52

-- each element of s < x
abbrev pub elt_lt : ℕ
elt_lt = 53

-- each element of s <= x
abbrev pub elt_le : ℕ
elt_le = 54

-- each element of s > x
abbrev pub elt_gt : ℕ
elt_gt = 55

-- each element of s >= x
abbrev pub elt_ge : ℕ
elt_ge = 56

-- s = t
abbrev pub eq_int_seq : ℕ
eq_int_seq = 57

-- s = t
abbrev pub eq_bool_seq : ℕ
eq_bool_seq = 58

-- s = t
abbrev pub eq_hash_seq : ℕ
eq_hash_seq = 59

-- s = t
abbrev pub eq_str_seq : ℕ
eq_str_seq = 60

-- equal lengths, and each element of s < its partner in t
abbrev pub pair_lt : ℕ
pair_lt = 61

-- equal lengths, and each element of s <= its partner in t
abbrev pub pair_le : ℕ
pair_le = 62

-- each element of s is one of t
abbrev pub subset_int : ℕ
subset_int = 63

-- each element of s is one of t
abbrev pub subset_hash : ℕ
subset_hash = 64

-- each element of s is one of t
abbrev pub subset_str : ℕ
subset_str = 65

-- s read backwards is t
abbrev pub reverse : ℕ
reverse = 66

-- the plane through the points (x, y, z)
abbrev pub linear_ternary : ℕ
linear_ternary = 67

-- by how much the elements of t are greater than those of s
abbrev pub pair_offset : ℕ
pair_offset = 68
