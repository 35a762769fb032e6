-- A good file and some refused ones, by computation. Document 01's run P8 is in the crate worked_examples. Assumes nothing.
use mathlib.Core.Path.{◌≡◌, refl}
use mathlib.Core.List.{List, [], ◌∷◌}
use Prim.Native.Nat.{ℕ}
use Rattle.text.specs.Text.{digit, number, decimal_within, decimal, in_front, split, join, starts_with, after, is_word, some}
use Rattle.sets.specs.Sets.{member, including, single, union}
use Rattle.lines.specs.Lines.{refuse, units_key, groups_key, group_key, parents_key, send_key, arrive_key, build_word, root_word, commas}
use Rattle.lines.specs.Lines.{numbers_in, count_in, count_fault, units_fault, groups_fault, count_line, rises_from, group_in, group_fault}
use Rattle.lines.specs.Lines.{members_from, group_line, Drawn, entry, entries_in, parent_of, parents_in, parents_fault, parent_text}
use Rattle.lines.specs.Lines.{parents_line}
use Rattle.lines.specs.Lines.{Send, Arrive, bad_send, event_fault, event_in, event_line}
use Rattle.benchfile.specs.File.{File, Refused, Good, next, step, finish, steps, read_file, lines_of, ended, text_of}

-- two units, a group of both, drawn; a send of the largest word and an arrive
abbrev pub good : List ℕ
good =
    117 ∷ 110 ∷ 105 ∷ 116 ∷ 115 ∷ 61 ∷ 50 ∷ 10 ∷
    103 ∷ 114 ∷ 111 ∷ 117 ∷ 112 ∷ 115 ∷ 61 ∷ 49 ∷ 10 ∷
    103 ∷ 114 ∷ 111 ∷ 117 ∷ 112 ∷ 61 ∷ 48 ∷ 44 ∷ 49 ∷ 10 ∷
    112 ∷ 97 ∷ 114 ∷ 101 ∷ 110 ∷ 116 ∷ 115 ∷ 61 ∷ 45 ∷ 44 ∷ 48 ∷ 10 ∷
    115 ∷ 101 ∷ 110 ∷ 100 ∷ 61 ∷ 49 ∷ 44 ∷ 48 ∷ 44 ∷
    52 ∷ 50 ∷ 57 ∷ 52 ∷ 57 ∷ 54 ∷ 55 ∷ 50 ∷ 57 ∷ 53 ∷ 10 ∷
    97 ∷ 114 ∷ 114 ∷ 105 ∷ 118 ∷ 101 ∷ 61 ∷ 48 ∷ 10 ∷ []

-- what it says
abbrev pub good_file : File
good_file = record { units = 2; groups = 3 ∷ []; parents = Drawn (255 ∷ 0 ∷ []); events = Send 1 0 4294967295 ∷ Arrive 0 ∷ [] }

-- `units=1` with CR LF: 4 at line 1
abbrev pub crlf : List ℕ
crlf =
    117 ∷ 110 ∷ 105 ∷ 116 ∷ 115 ∷ 61 ∷ 49 ∷ 13 ∷ 10 ∷ []

-- `units=01`: 4 at line 1
abbrev pub leading_zero : List ℕ
leading_zero =
    117 ∷ 110 ∷ 105 ∷ 116 ∷ 115 ∷ 61 ∷ 48 ∷ 49 ∷ 10 ∷ []

-- 33 units: 5 at line 1
abbrev pub units33 : List ℕ
units33 =
    117 ∷ 110 ∷ 105 ∷ 116 ∷ 115 ∷ 61 ∷ 51 ∷ 51 ∷ 10 ∷ []

-- `group=1,0,2` on 2 units: 6, and not 7, at line 3
abbrev pub lowest : List ℕ
lowest =
    117 ∷ 110 ∷ 105 ∷ 116 ∷ 115 ∷ 61 ∷ 50 ∷ 10 ∷
    103 ∷ 114 ∷ 111 ∷ 117 ∷ 112 ∷ 115 ∷ 61 ∷ 49 ∷ 10 ∷
    103 ∷ 114 ∷ 111 ∷ 117 ∷ 112 ∷ 61 ∷ 49 ∷ 44 ∷ 48 ∷ 44 ∷ 50 ∷ 10 ∷ []

-- `group=1,0` before `group=x`: 7 at line 3
abbrev pub first_line_decides : List ℕ
first_line_decides =
    117 ∷ 110 ∷ 105 ∷ 116 ∷ 115 ∷ 61 ∷ 50 ∷ 10 ∷
    103 ∷ 114 ∷ 111 ∷ 117 ∷ 112 ∷ 115 ∷ 61 ∷ 50 ∷ 10 ∷
    103 ∷ 114 ∷ 111 ∷ 117 ∷ 112 ∷ 61 ∷ 49 ∷ 44 ∷ 48 ∷ 10 ∷
    103 ∷ 114 ∷ 111 ∷ 117 ∷ 112 ∷ 61 ∷ 120 ∷ 10 ∷ []

-- `send=65535,0,0`: 4 at line 4
abbrev pub source : List ℕ
source =
    117 ∷ 110 ∷ 105 ∷ 116 ∷ 115 ∷ 61 ∷ 49 ∷ 10 ∷
    103 ∷ 114 ∷ 111 ∷ 117 ∷ 112 ∷ 115 ∷ 61 ∷ 48 ∷ 10 ∷
    112 ∷ 97 ∷ 114 ∷ 101 ∷ 110 ∷ 116 ∷ 115 ∷ 61 ∷ 45 ∷ 10 ∷
    115 ∷ 101 ∷ 110 ∷ 100 ∷ 61 ∷ 54 ∷ 53 ∷ 53 ∷ 51 ∷ 53 ∷ 44 ∷ 48 ∷ 44 ∷ 48 ∷ 10 ∷ []

-- `send=0,0,4294967296`: 4 at line 4
abbrev pub word : List ℕ
word =
    117 ∷ 110 ∷ 105 ∷ 116 ∷ 115 ∷ 61 ∷ 49 ∷ 10 ∷
    103 ∷ 114 ∷ 111 ∷ 117 ∷ 112 ∷ 115 ∷ 61 ∷ 48 ∷ 10 ∷
    112 ∷ 97 ∷ 114 ∷ 101 ∷ 110 ∷ 116 ∷ 115 ∷ 61 ∷ 45 ∷ 10 ∷
    115 ∷ 101 ∷ 110 ∷ 100 ∷ 61 ∷ 48 ∷ 44 ∷ 48 ∷ 44 ∷
    52 ∷ 50 ∷ 57 ∷ 52 ∷ 57 ∷ 54 ∷ 55 ∷ 50 ∷ 57 ∷ 54 ∷ 10 ∷ []

-- `units=65536`: 4, and not 5, at line 1
abbrev pub units65536 : List ℕ
units65536 =
    117 ∷ 110 ∷ 105 ∷ 116 ∷ 115 ∷ 61 ∷ 54 ∷ 53 ∷ 53 ∷ 51 ∷ 54 ∷ 10 ∷ []

-- a doubled last LF: 3 at line 4
abbrev pub doubled : List ℕ
doubled =
    117 ∷ 110 ∷ 105 ∷ 116 ∷ 115 ∷ 61 ∷ 49 ∷ 10 ∷
    103 ∷ 114 ∷ 111 ∷ 117 ∷ 112 ∷ 115 ∷ 61 ∷ 48 ∷ 10 ∷
    112 ∷ 97 ∷ 114 ∷ 101 ∷ 110 ∷ 116 ∷ 115 ∷ 61 ∷ 45 ∷ 10 ∷
    10 ∷ []

pub record Examples : Type 0 where
  pub read : read_file 9000 good ≡ Good good_file
  pub written : text_of good_file ≡ good
  pub empty : read_file 9000 [] ≡ Refused (3 ∷ 1 ∷ [])
  pub short : read_file 8999 good ≡ Refused (1 ∷ [])
  pub crlf-refused : read_file 9000 crlf ≡ Refused (4 ∷ 1 ∷ [])
  pub leading_zero-refused : read_file 9000 leading_zero ≡ Refused (4 ∷ 1 ∷ [])
  pub units33-refused : read_file 9000 units33 ≡ Refused (5 ∷ 1 ∷ [])
  pub lowest-refused : read_file 9000 lowest ≡ Refused (6 ∷ 3 ∷ [])
  pub first_line_decides-refused : read_file 9000 first_line_decides ≡ Refused (7 ∷ 3 ∷ [])
  pub source-refused : read_file 9000 source ≡ Refused (4 ∷ 4 ∷ [])
  pub word-refused : read_file 9000 word ≡ Refused (4 ∷ 4 ∷ [])
  pub units65536-refused : read_file 9000 units65536 ≡ Refused (4 ∷ 1 ∷ [])
  pub doubled-refused : read_file 9000 doubled ≡ Refused (3 ∷ 4 ∷ [])

pub examples : Examples
unfolding digit number decimal_within decimal in_front split join starts_with after is_word some member including single union refuse
    units_key groups_key group_key parents_key send_key arrive_key build_word root_word commas numbers_in count_in count_fault
    units_fault groups_fault count_line
    rises_from group_in group_fault members_from group_line entry entries_in parent_of parents_in parents_fault parent_text parents_line
    bad_send
    event_fault event_in event_line next step finish steps read_file lines_of ended text_of
examples = record {
  read = refl;
  written = refl;
  empty = refl;
  short = refl;
  crlf-refused = refl;
  leading_zero-refused = refl;
  units33-refused = refl;
  lowest-refused = refl;
  first_line_decides-refused = refl;
  source-refused = refl;
  word-refused = refl;
  units65536-refused = refl;
  doubled-refused = refl;
}
