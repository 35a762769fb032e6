-- Laws of events: the numbers of a send one after the other, and what a line says. Assumes nothing.
use mathlib.Core.Path.{◌≡◌, refl, sym, ap, ◌∙◌}
use mathlib.Core.Logic.{by_cases}
use mathlib.Core.Bool.{Bool, true, false, cond}
use mathlib.Core.List.{List, [], ◌∷◌, foldl}
use Prim.Native.Nat.{ℕ, suc, ◌≤◌, ◌<◌}
use native.Mathlib.Nat.{lt_irrefl}
use native.Mathlib.Decide.{dec_lt}
use native.Mathlib.Omega.{arith}
use lib.ListN.{length, get_or}
use borrow.Author.Tests.{lt-ltb, le-ltb, ne_eqb}
use Rattle.text.specs.Text.{number}
use Rattle.text.specs.Writing.{place_of}
use Rattle.lines.specs.Lines.{refuse, numbers_in, send_key, arrive_key, bad_send, event_fault, event_in, event_numbers}
use Rattle.lines.specs.Fields.{fault_number, first_line, fault_at, Keyed, Keyless, Says, up_to, no_numbers, with_number, send_fault}
use Rattle.lines.specs.Fields.{send_numbers, said_in}
use Rattle.lines.specs.declared.Fault.{Fault}
use Rattle.lines.specs.declared.Fault.TheVariants.{BadValue}
use Rattle.lines.specs.declared.events.Triple.{Triple}
use Rattle.lines.proofs.Ends.{fault_none, fault_line, key-not, said, refused}
use Rattle.lines.proofs.Folds.{count_test}

-- ---- three numbers

send_fault-is : (ns : List ℕ) → send_fault (foldl with_number no_numbers ns) ≡ cond (bad_send ns) 4 0
unfolding send_fault with_number no_numbers up_to bad_send
send_fault-is [] = refl
send_fault-is (a ∷ []) = refl
send_fault-is (a ∷ b ∷ []) = refl
send_fault-is (a ∷ b ∷ d ∷ []) = refl
send_fault-is (a ∷ b ∷ d ∷ e ∷ ns) =
    simp (
      count_test with_number (λ t. t.count) 4 (λ t m. refl) (a ∷ b ∷ d ∷ e ∷ ns) no_numbers 3 refl (omega arith),
      ne_eqb (length (a ∷ b ∷ d ∷ e ∷ ns)) 3 (λ h. lt_irrefl 0 (omega arith)),
    )

refuse-is : (b : Bool) → ◌≡◌ {A = ℕ} (refuse b 4 0) (cond b 4 0)
unfolding refuse
refuse-is true = refl
refuse-is false = refl

-- the numbers of a good send
sent : List ℕ → List ℕ
sent ns = suc (get_or ns 0 0) ∷ get_or ns 1 0 ∷ get_or ns 2 0 ∷ []

send_numbers-are : (ns : List ℕ) → ◌≡◌ {A = ℕ} (cond (bad_send ns) 4 0) 0
    → send_numbers (foldl with_number no_numbers ns) ≡ sent ns
unfolding send_numbers with_number no_numbers up_to bad_send sent
send_numbers-are [] h = refl
send_numbers-are (a ∷ []) h = refl
send_numbers-are (a ∷ b ∷ []) h = refl
send_numbers-are (a ∷ b ∷ d ∷ []) h = refl
send_numbers-are (a ∷ b ∷ d ∷ e ∷ ns) h =
    let many = ne_eqb (length (a ∷ b ∷ d ∷ e ∷ ns)) 3 (λ h. lt_irrefl 0 (omega arith)) in
    let four : ◌≡◌ {A = ℕ} 4 0 = simp many at h in
    absurd (omega arith)

-- ---- what a line says

module _ {rest value : List ℕ} {used : ℕ} where
  -- the numbers t read from the value of a send
  module _ (k : Keyed send_key rest value used) {t : Triple} (read : t ≡ foldl with_number no_numbers (numbers_in value)) where
    send_said : send_fault t ≡ cond (bad_send (numbers_in value)) 4 0
    send_said = ap send_fault read ∙ send_fault-is (numbers_in value)

    send_there : event_fault 0 (first_line rest) ≡ send_fault t
    unfolding event_fault refuse
    send_there = simp (k.begins, ← k.is) (refuse-is (bad_send (numbers_in value)) ∙ sym send_said)

    pub send-faulty : (f : Fault) → fault_number f ≡ send_fault t → fault_number f ≡ fault_at (event_fault 0) rest
    send-faulty f h = refused k (event_fault 0) (send_there ∙ sym h)

    pub send-good : {ns : List ℕ} → (send_fault t ≡ 0) × (ns ≡ send_numbers t)
        → Says (event_fault 0) said_in rest (record { value = ns; used = used })
    unfolding event_in event_numbers sent
    send-good h =
        said k (send_there ∙ h.0)
        (h.1 ∙ ap send_numbers read ∙ send_numbers-are (numbers_in value) (sym send_said ∙ h.0) ∙ simp (k.begins, ← k.is))

  -- no send
  module _ {other : Fault} (none : Keyless send_key rest other) (k : Keyed arrive_key rest value used) where
    pub arrive-bad : {f : Fault} → (f ≡ BadValue) × (65535 < number value) → fault_number f ≡ fault_at (event_fault 0) rest
    unfolding event_fault refuse fault_number
    arrive-bad h = ap fault_number h.0 ∙ refused k (event_fault 0) (simp (key-not none k.ended, k.begins, ← k.is, lt-ltb 65535 _ h.1))

    pub arrive-good : {hop : ℕ} → (hop ≡ number value) × (hop ≤ 65535)
        → Says (event_fault 0) said_in rest (record { value = 0 ∷ hop ∷ 0 ∷ []; used = used })
    unfolding event_fault refuse event_in event_numbers
    arrive-good {hop} h =
        said k (simp (key-not none k.ended, k.begins, ← k.is, ← h.0, le-ltb 65535 hop h.1))
        (simp (key-not none k.ended, ← k.is, ← h.0))

pub event-missing : {rest : List ℕ} {other f : Fault} → Keyless send_key rest other → Keyless arrive_key rest f
    → fault_number f ≡ fault_at (event_fault 0) rest
unfolding event_fault refuse fault_number
event-missing {rest} none k =
    ap fault_number k.fault
    ∙ sym (by_cases (dec_lt (place_of 10 rest) (length rest))
    (λ l. fault_line (event_fault 0) rest l ∙ simp (key-not none l, key-not k l))
    (λ l. fault_none (event_fault 0) rest (omega arith)))
