-- Bytes by their names.
use Rattle.std.specs.Prelude.{ℕ}

-- a tab
abbrev pub tab : ℕ
tab = 9

-- the end of a line
abbrev pub line_feed : ℕ
line_feed = 10

-- what may stand before it
abbrev pub carriage_return : ℕ
carriage_return = 13

-- a space
abbrev pub space : ℕ
space = 32

-- `!`
abbrev pub exclamation_mark : ℕ
exclamation_mark = 33

-- `"`
abbrev pub quotation_mark : ℕ
quotation_mark = 34

-- `#`
abbrev pub hash_sign : ℕ
hash_sign = 35

-- `&`
abbrev pub ampersand : ℕ
ampersand = 38

-- `(`
abbrev pub left_parenthesis : ℕ
left_parenthesis = 40

-- `)`
abbrev pub right_parenthesis : ℕ
right_parenthesis = 41

-- `+`
abbrev pub plus_sign : ℕ
plus_sign = 43

-- `,`
abbrev pub comma : ℕ
comma = 44

-- `-`
abbrev pub hyphen : ℕ
hyphen = 45

-- `.`
abbrev pub full_stop : ℕ
full_stop = 46

-- `0`
abbrev pub digit_zero : ℕ
digit_zero = 48

-- `1`
abbrev pub digit_one : ℕ
digit_one = 49

-- `:`
abbrev pub colon : ℕ
colon = 58

-- `;`
abbrev pub semicolon : ℕ
semicolon = 59

-- `<`
abbrev pub less_than_sign : ℕ
less_than_sign = 60

-- `=`
abbrev pub equals_sign : ℕ
equals_sign = 61

-- `>`
abbrev pub greater_than_sign : ℕ
greater_than_sign = 62

-- `\`
abbrev pub backslash : ℕ
backslash = 92

-- `^`
abbrev pub caret : ℕ
caret = 94

-- `_`
abbrev pub underscore : ℕ
underscore = 95

-- `|`
abbrev pub vertical_bar : ℕ
vertical_bar = 124

-- the last control character of ASCII
abbrev pub delete : ℕ
delete = 127
