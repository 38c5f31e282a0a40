-- The grammar of a line.
use Rattle.std.specs.Prelude.{ℕ, ◌-◌, ◌^◌, cond, List, [], ◌∷◌, length, take, drop, replicate, Some, None, codes, Option, Result, ◌==◌, nat_le, slice_index}
use Prim.Native.String.{String}
use Rattle.std.specs.Option.{option_map}
use Rattle.std.specs.Result.{result_ok}
use Rattle.model.specs.Calls.{Call, read, write, run, hand, tell}
use Rattle.asks.specs.Numbers.{numeral}
use Rattle.asks.specs.Rows.{before}
use Rattle.asks.specs.declared.ask.Ask.{Ask}
use Rattle.asks.specs.declared.ask.Ask.TheVariants.{Read, Write, Run, Hand, Tell}
use Rattle.asks.specs.declared.ask.Malformed.{Malformed}
use Rattle.asks.specs.declared.stretch.Stretch.{Stretch}

-- the call that an ask stands for: its buffer is of zeros, its bytes are those that it borrows
abbrev pub call : Ask → Call
call (Read s) = read s.seat s.sheet s.place (replicate s.size 0)
call (Write seat sheet place bytes) = write seat sheet place bytes.now
call (Run s) = run s.seat s.sheet s.place (replicate s.size 0)
call (Hand seat sheet slip) = hand seat sheet slip
call (Tell seat) = tell seat

-- the call of an accepted line
abbrev pub asked : Result Ask Malformed → Option Call
asked r = option_map call (result_ok r)

-- a field: one space, then a number of at most `most` up to the next space; with what follows it
unfoldable pub field : ℕ → List ℕ → Option (ℕ × List ℕ)
field most [] = None
field most (b ∷ text) = cond (b == 32) (option_map (λ n. (n, drop (before 32 text) text)) (numeral most (take (before 32 text) text))) None

infixr 10 ◌then◌
-- a field and then the rest of the line, or nothing where there is no field
abbrev pub ◌then◌ : {A : Type 0} → Option (ℕ × List ℕ) → (ℕ → List ℕ → Option A) → Option A
None then go = None
(Some p) then go = go p.0 p.1

-- a number, where the line stops after it
abbrev pub at_end : ℕ → List ℕ → Option ℕ
at_end n [] = Some n
at_end n (b ∷ text) = None

-- a field up to the end of the line
abbrev pub last_field : ℕ → List ℕ → Option ℕ
last_field most text = field most text then at_end

-- the bytes after a space, or the blank text where the line stops
abbrev pub rest : List ℕ → List ℕ → Option (List ℕ)
rest blank [] = Some blank
rest blank (b ∷ text) = cond (b == 32) (Some text) None

-- seat, sheet, place and buffer size
abbrev pub parts : Stretch → ℕ × ℕ × ℕ × ℕ
parts s = (s.seat, s.sheet, s.place, s.size)

-- the same four, up to the end of the line
abbrev pub stretch : List ℕ → Option (ℕ × ℕ × ℕ × ℕ)
stretch text =
    field (2 ^ 16 - 1) text then λ seat t1.
    field (2 ^ 16 - 1) t1 then λ sheet t2.
    field (2 ^ 32 - 1) t2 then λ place t3.
    option_map (λ size. (seat, sheet, place, size)) (last_field 64 t3)

-- a call of such a kind, with a buffer of so many zeros
abbrev pub buffered : (ℕ → ℕ → ℕ → List ℕ → Call) → List ℕ → Option Call
buffered kind text = option_map (λ x. kind x.0 x.1 x.2 (replicate x.3 0)) (stretch text)

-- seat, sheet, place, and the bytes of a write
abbrev pub writing : List ℕ → Option Call
writing text =
    field (2 ^ 16 - 1) text then λ seat t1.
    field (2 ^ 16 - 1) t1 then λ sheet t2.
    field (2 ^ 32 - 1) t2 then λ place t3.
    option_map (write seat sheet place) (rest (codes "----") t3)

-- seat, sheet and slip
abbrev pub handing : List ℕ → Option Call
handing text =
    field (2 ^ 16 - 1) text then λ seat t1.
    field (2 ^ 16 - 1) t1 then λ sheet t2.
    option_map (hand seat sheet) (last_field (2 ^ 64 - 1) t2)

-- a seat
abbrev pub telling : List ℕ → Option Call
telling text = option_map tell (last_field (2 ^ 16 - 1) text)

-- the byte of a letter
abbrev letter : String → ℕ
letter name = slice_index (codes name) 0

-- the fields after the letters r, w, x, h and t
abbrev pub lettered : ℕ → List ℕ → Option Call
lettered b text =
    cond (b == letter "r") (buffered read text)
    (cond (b == letter "w") (writing text)
    (cond (b == letter "x") (buffered run text)
    (cond (b == letter "h") (handing text)
    (cond (b == letter "t") (telling text) None))))

-- a letter and its fields
abbrev pub begun : List ℕ → Option Call
begun [] = None
begun (b ∷ text) = lettered b text

-- what a line says, of at most 200 bytes
abbrev pub parsed : List ℕ → Option Call
parsed line = cond (nat_le (length line) 200) (begun line) None
