-- The text of a line, as bytes: document 01, "Records and desk program". Definitions only.
use Rattle.std.specs.Prelude.{◌≡◌, cond, List, [], ◌∷◌, ◌++◌, ℕ, zero, suc, ◌+◌, ◌/◌, ◌%◌, ltb, length, take, Option, Some, None}
use Rattle.std.specs.List.{flat_map}
use Rattle.fields.specs.Bytes.{put_at}
use Rattle.lines.specs.declared.Word.{Word}
use Rattle.lines.specs.declared.Word.TheVariants.{Plane, Rate, Prime, Track, Loiter, Idle, Energy, Hold, Fallback, Refused, Stopped}
use Rattle.lines.specs.declared.Values.{Values}
use Rattle.lines.specs.declared.Values.TheVariants as count
use Rattle.lines.specs.declared.Line.{Line}

-- 0 to 9, a to f
abbrev pub digit : ℕ → ℕ
digit d = cond (ltb d 10) (48 + d) (87 + d)

-- the n lowest digits of a number, high digit first
unfoldable pub digits : ℕ → ℕ → ℕ → List ℕ
digits base zero v = []
digits base (suc n) v = digits base n (v / base) ++ (digit (v % base) ∷ [])

-- the 8 hexadecimal digits of a number's bits
abbrev pub hex8 : ℕ → List ℕ
hex8 bits = digits 16 8 bits

-- the decimal digits of a number, at most n, with no zero in front
unfoldable pub decimal_in : ℕ → ℕ → List ℕ
decimal_in zero v = []
decimal_in (suc n) v = cond (ltb v 10) (digit v ∷ []) (decimal_in n (v / 10) ++ (digit (v % 10) ∷ []))

-- a u32 has at most 10
abbrev pub decimal : ℕ → List ℕ
decimal v = decimal_in 10 v

-- a space and the word's letters
unfoldable pub word : Word → List ℕ
word Plane = 32 ∷ 112 ∷ 108 ∷ 97 ∷ 110 ∷ 101 ∷ []
word Rate = 32 ∷ 114 ∷ 97 ∷ 116 ∷ 101 ∷ []
word Prime = 32 ∷ 112 ∷ 114 ∷ 105 ∷ 109 ∷ 101 ∷ []
word Track = 32 ∷ 116 ∷ 114 ∷ 97 ∷ 99 ∷ 107 ∷ []
word Loiter = 32 ∷ 108 ∷ 111 ∷ 105 ∷ 116 ∷ 101 ∷ 114 ∷ []
word Idle = 32 ∷ 105 ∷ 100 ∷ 108 ∷ 101 ∷ []
word Energy = 32 ∷ 101 ∷ 110 ∷ 101 ∷ 114 ∷ 103 ∷ 121 ∷ []
word Hold = 32 ∷ 104 ∷ 111 ∷ 108 ∷ 100 ∷ []
word Fallback = 32 ∷ 102 ∷ 97 ∷ 108 ∷ 108 ∷ 98 ∷ 97 ∷ 99 ∷ 107 ∷ []
word Refused = 32 ∷ 114 ∷ 101 ∷ 102 ∷ 117 ∷ 115 ∷ 101 ∷ 100 ∷ []
word Stopped = 32 ∷ 115 ∷ 116 ∷ 111 ∷ 112 ∷ 112 ∷ 101 ∷ 100 ∷ []

-- the call's number, or `config`
unfoldable pub subject : Option ℕ → List ℕ
subject None = 99 ∷ 111 ∷ 110 ∷ 102 ∷ 105 ∷ 103 ∷ []
subject (Some n) = decimal n

-- a refusal's number, where there is one
unfoldable pub refusal : Option ℕ → List ℕ
refusal None = []
refusal (Some n) = 32 ∷ decimal n

-- none to four; an array of three has three, which its list alone doesn't show
abbrev pub listed : Values → List ℕ
listed count.None = []
listed (count.One v) = take 1 v
listed (count.Two v) = take 2 v
listed (count.Three v) = take 3 v
listed (count.Four v) = take 4 v

-- a space and a number's bits
abbrev pub value : ℕ → List ℕ
value v = 32 ∷ hex8 v

-- each number so
abbrev pub values : List ℕ → List ℕ
values vs = flat_map value vs

-- a word, where there is one
unfoldable pub any_word : Option Word → List ℕ
any_word None = []
any_word (Some w) = word w

-- at most two words
unfoldable pub words : Option Word → Option Word → List ℕ
words first second = any_word first ++ any_word second

-- a refusal's number and a list of values
unfoldable pub numbers : Option ℕ → List ℕ → List ℕ
numbers r vs = refusal r ++ values vs

-- a line, with its end
unfoldable pub text : Line → List ℕ
text l = subject l.call ++ words l.first l.second ++ numbers l.refusal (listed l.values) ++ (10 ∷ [])

-- no line has more bytes
abbrev pub line_room : ℕ
line_room = 80

-- what a writer does: bytes at the front of a part, whose other bytes are kept, and how many
pub record Puts (bs before after : List ℕ) (r : ℕ) : Type 0 where
  pub bytes : after ≡ put_at before 0 bs
  pub size : r ≡ length bs
