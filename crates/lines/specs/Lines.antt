-- Rules of the lines of a bench file (document 01, "The bench file" and "Turned away", 3 to 9; document 02, #101). A line is a text without
-- its LF. Definitions only. Of each kind of line: the lowest number of all its faults, 0 for none; what a good line says; and the line that
-- says it.
use Rattle.std.specs.Prelude.{ℕ, zero, suc, Bool, true, false, not, ◌||◌, cond, length, get_or, ltb, leb, eqb}
use mathlib.Core.List.{List, [], ◌∷◌, ◌++◌, map, foldl}
use Rattle.sets.specs.Sets.{member, including}
use Rattle.layout.specs.Tables.{tabulate}
use Rattle.text.specs.Text.{number, decimal, split, join, starts_with, after, is_word, some}

-- the refusal where the test says so, else the rest
unfoldable pub refuse : {A : Type 0} → Bool → A → A → A
refuse true refusal rest = refusal
refuse false refusal rest = rest

-- ---- keys and words, in ASCII

-- units=
unfoldable pub units_key : List ℕ
units_key = 117 ∷ 110 ∷ 105 ∷ 116 ∷ 115 ∷ 61 ∷ []

-- groups=
unfoldable pub groups_key : List ℕ
groups_key = 103 ∷ 114 ∷ 111 ∷ 117 ∷ 112 ∷ 115 ∷ 61 ∷ []

-- group=
unfoldable pub group_key : List ℕ
group_key = 103 ∷ 114 ∷ 111 ∷ 117 ∷ 112 ∷ 61 ∷ []

-- parents=
unfoldable pub parents_key : List ℕ
parents_key = 112 ∷ 97 ∷ 114 ∷ 101 ∷ 110 ∷ 116 ∷ 115 ∷ 61 ∷ []

-- send=
unfoldable pub send_key : List ℕ
send_key = 115 ∷ 101 ∷ 110 ∷ 100 ∷ 61 ∷ []

-- arrive=
unfoldable pub arrive_key : List ℕ
arrive_key = 97 ∷ 114 ∷ 114 ∷ 105 ∷ 118 ∷ 101 ∷ 61 ∷ []

-- build
unfoldable pub build_word : List ℕ
build_word = 98 ∷ 117 ∷ 105 ∷ 108 ∷ 100 ∷ []

-- a root's `-`
unfoldable pub root_word : List ℕ
root_word = 45 ∷ []

-- texts with commas between them
unfoldable pub commas : List (List ℕ) → List ℕ
commas = join 44

-- numbers with commas between them
unfoldable pub numbers_in : List ℕ → List ℕ
numbers_in value = map number (split 44 value)

-- ---- units and groups: a key and a number between two others

unfoldable pub count_in : List ℕ → List ℕ → ℕ
count_in key line = number (after key line)

unfoldable pub count_fault : List ℕ → ℕ → ℕ → List ℕ → ℕ
count_fault key least most line =
    let n = count_in key line in
    refuse (not (starts_with key line)) 3 (refuse (ltb 65535 n) 4 (refuse (ltb n least || ltb most n) 5 0))

unfoldable pub units_fault : List ℕ → ℕ
units_fault = count_fault units_key 1 32

unfoldable pub groups_fault : List ℕ → ℕ
groups_fault = count_fault groups_key 0 24

-- a line that is a key and a number
unfoldable pub count_line : List ℕ → ℕ → List ℕ
count_line key n = key ++ decimal n

-- ---- a group: members of n units, rising

-- strictly rising, from k on
unfoldable pub rises_from : ℕ → List ℕ → Bool
rises_from k [] = true
rises_from k (m ∷ ms) = cond (leb k m) (rises_from (suc m) ms) false

-- the group as a set, one member more after the other
unfoldable pub group_in : List ℕ → ℕ
group_in line = foldl including 0 (numbers_in (after group_key line))

unfoldable pub group_fault : ℕ → List ℕ → ℕ
group_fault n line =
    let ms = numbers_in (after group_key line) in
    refuse (not (starts_with group_key line)) 3
    (refuse (some (ltb 65535) ms) 4 (refuse (some (leb n) ms) 6 (refuse (not (rises_from 0 ms)) 7 0)))

-- the members of s from u on, k numbers being looked at
unfoldable pub members_from : ℕ → ℕ → ℕ → List ℕ
members_from zero u s = []
members_from (suc k) u s = let rest = members_from k (suc u) s in cond (member s u) (u ∷ rest) rest

unfoldable pub group_line : ℕ → List ℕ
group_line s = group_key ++ commas (map decimal (members_from 32 0 s))

-- ---- parents: `build`, or an entry for each of n units

pub data Parents : Type 0 where
  Build : Parents
  -- the parent of each unit, 255 for a root
  Drawn : List ℕ → Parents

-- an entry: 0 for a root, else one more than the parent's number
unfoldable pub entry : List ℕ → ℕ
entry text = cond (is_word root_word text) 0 (suc (number text))

unfoldable pub entries_in : List ℕ → List ℕ
entries_in value = map entry (split 44 value)

unfoldable pub parent_of : ℕ → ℕ
parent_of zero = 255
parent_of (suc p) = p

unfoldable pub parents_in : List ℕ → Parents
parents_in line = let value = after parents_key line in cond (is_word build_word value) Build (Drawn (map parent_of (entries_in value)))

-- an entry is at most 65,536, the parent's number at most 65,535
unfoldable pub parents_fault : ℕ → List ℕ → ℕ
parents_fault n line =
    let value = after parents_key line in
    let es = entries_in value in
    refuse (not (starts_with parents_key line)) 3
    (cond (is_word build_word value) 0
    (refuse (some (ltb 65536) es) 4 (refuse (some (ltb n) es) 6 (refuse (not (eqb (length es) n)) 8 0))))

unfoldable pub parent_text : ℕ → List ℕ
parent_text p = cond (eqb p 255) root_word (decimal p)

unfoldable pub parents_line : Parents → List ℕ
parents_line Build = parents_key ++ build_word
parents_line (Drawn ps) = parents_key ++ commas (map parent_text ps)

-- parents as they stand in a content: whether `build`; a byte for each of 32 places, 255 past those drawn and everywhere for `build`
unfoldable pub is_build : Parents → Bool
is_build Build = true
is_build (Drawn ps) = false

unfoldable pub parents_table : Parents → List ℕ
parents_table Build = tabulate 32 (λ u. 255)
parents_table (Drawn ps) = tabulate 32 (λ u. get_or ps u 255)

unfoldable pub parents_said : Bool → List ℕ → Parents
parents_said true ps = Build
parents_said false ps = Drawn ps

-- ---- an event; k came before it

pub data Event : Type 0 where
  Send : (source group word : ℕ) → Event
  Arrive : (hop : ℕ) → Event

-- badly written: not three numbers, or one above its limit: a source 65,534, a group 65,535, a word 4,294,967,295
unfoldable pub bad_send : List ℕ → Bool
bad_send ns = not (eqb (length ns) 3) || (ltb 65534 (get_or ns 0 0) || (ltb 65535 (get_or ns 1 0) || ltb 4294967295 (get_or ns 2 0)))

unfoldable pub event_fault : ℕ → List ℕ → ℕ
event_fault k line =
    refuse (not (starts_with send_key line || starts_with arrive_key line)) 3
    (refuse (cond (starts_with send_key line) (bad_send (numbers_in (after send_key line))) (ltb 65535 (number (after arrive_key line)))) 4
    (refuse (leb 3000 k) 9 0))

unfoldable pub event_in : List ℕ → Event
event_in line =
    let ns = numbers_in (after send_key line) in
    cond (starts_with send_key line) (Send (get_or ns 0 0) (get_or ns 1 0) (get_or ns 2 0)) (Arrive (number (after arrive_key line)))

unfoldable pub event_line : Event → List ℕ
event_line (Send s g w) = send_key ++ commas (decimal s ∷ decimal g ∷ decimal w ∷ [])
event_line (Arrive h) = arrive_key ++ decimal h

-- an event in the lent list: three numbers, a send source+1, group, word, an arrive 0, hop, 0
unfoldable pub event_numbers : Event → List ℕ
event_numbers (Send s g w) = suc s ∷ g ∷ w ∷ []
event_numbers (Arrive h) = 0 ∷ h ∷ 0 ∷ []

-- the event that three numbers say
unfoldable pub event_of : ℕ → ℕ → ℕ → Event
event_of zero b c = Arrive b
event_of (suc s) b c = Send s b c
