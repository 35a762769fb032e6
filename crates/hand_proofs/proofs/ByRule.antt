-- What a caller knows of a function whose contract has no `requires` and says its result and its last lists by a relation or by rules, for
-- the steps `calls-related` and `calls` of Calling.antt.
--     Data ps          the values and the lists passed: what the relation and the rules are over
--     promising        such a function, of its parameters, its result's type and the relation that its one `ensures` states of the data,
--                      the result and the last lists
--     Telling          how the contract says what they come to: `the_result`, `the-list`, `result-and-list`, `result-and-lists`
--     stating          such a function, of its parameters, its result's type and the two rules
--     by-rule          one whose parameters are all plain data and whose contract is `r ≡ rule d`
-- It says nothing of any crate.
use mathlib.Core.Path.{◌≡◌, refl, sym, subst}
use mathlib.Core.List.{List, [], ◌∷◌}
use Prim.Native.Nat.{ℕ}
use seplogic.Ra.Ura.{Ura}
use base.Logic.{emp, id⊢, via}
use types.Logic.{Logic}
use contract.Monad.{fact}
use contract.Lifetimes.{Lfts}
use denote.Exit.{yes}
use denote.RattleType.{RattleType, Denots}
use denote.Signature.{types_at}
use denote.Triple.End.{all, Fins, Outs, outs}
use Rattle.hand_proofs.proofs.Values.{ByValue}
use Rattle.hand_proofs.proofs.Calling.{Pass, value, lent, shown, relayed, slots, Handed, Names, Ends, args, ends, RelationalCallee}
use Rattle.hand_proofs.proofs.Calling.{Callee, says_also}

module _ {n : ℕ} where
  abbrev pub Data : List (Pass n) → Type 0
  Data [] = Unit {0}
  Data (value R B ∷ ps) = R.Denot × Data ps
  Data (lent j ok R ∷ ps) = List R.Denot × Data ps
  Data (shown j ok R F ∷ ps) = List R.Denot × Data ps
  Data (relayed j ok R B ∷ ps) = List R.Denot × Data ps

  -- of what a caller hands over, of a callee's arguments, and that they are the same
  abbrev pub handed_data : (ps : List (Pass n)) → Handed ps → Data ps
  handed_data [] h = tt
  handed_data (value R B ∷ ps) h = (h.0, handed_data ps h.1)
  handed_data (lent j ok R ∷ ps) h = (h.0.1, handed_data ps h.1)
  handed_data (shown j ok R F ∷ ps) h = (h.0.1, handed_data ps h.1)
  handed_data (relayed j ok R B ∷ ps) h = (h.0.1, handed_data ps h.1)

  module _ (κs : Lfts n) where
    abbrev pub data_of : (ps : List (Pass n)) → Denots (types_at (slots ps) κs) → Data ps
    data_of [] a = tt
    data_of (value R B ∷ ps) a = (a.0, data_of ps a.1)
    data_of (lent j ok R ∷ ps) a = (a.0.now, data_of ps a.1)
    data_of (shown j ok R F ∷ ps) a = (a.0.now, data_of ps a.1)
    data_of (relayed j ok R B ∷ ps) a = (a.0.now, data_of ps a.1)

    pub same_data : (ps : List (Pass n)) (h : Handed ps) (δs : Names ps) → data_of ps (args κs ps h δs) ≡ handed_data ps h
    same_data [] h δs = refl
    same_data (value R B ∷ ps) h δs = λ i. (h.0, same_data ps h.1 δs i)
    same_data (lent j ok R ∷ ps) h δs = λ i. (h.0.1, same_data ps h.1 δs.1 i)
    same_data (shown j ok R F ∷ ps) h δs = λ i. (h.0.1, same_data ps h.1 δs i)
    same_data (relayed j ok R B ∷ ps) h δs = λ i. (h.0.1, same_data ps h.1 δs i)

    -- the last lists, of what a contract sees at exit, and that they are those that it binds
    abbrev pub last-lists : (ps : List (Pass n)) → Outs κs (slots ps) (all yes (slots ps)) → Ends ps
    last-lists [] end = tt
    last-lists (value R B ∷ ps) end = last-lists ps end.1
    last-lists (lent j ok R ∷ ps) end = (end.0.now, last-lists ps end.1)
    last-lists (shown j ok R F ∷ ps) end = last-lists ps end.1
    last-lists (relayed j ok R B ∷ ps) end = last-lists ps end.1

    pub same_lists : (ps : List (Pass n)) (a : Denots (types_at (slots ps) κs)) (ws : Fins κs (slots ps) (all yes (slots ps)) a)
        → ends κs ps a ws ≡ last-lists ps (outs κs (slots ps) (all yes (slots ps)) a ws)
    same_lists [] a ws = refl
    same_lists (value R B ∷ ps) a ws = same_lists ps a.1 ws.1
    same_lists (lent j ok R ∷ ps) a ws = λ i. (ws.0, same_lists ps a.1 ws.1 i)
    same_lists (shown j ok R F ∷ ps) a ws = same_lists ps a.1 ws.1
    same_lists (relayed j ok R B ∷ ps) a ws = same_lists ps a.1 ws.1

-- ---- by a relation
module _ {M : Type 1} {𝓤 : Ura M} (𝓛 : Logic 𝓤) where
  abbrev pub promising : (n : ℕ) (ps : List (Pass n)) (S : RattleType) → ByValue S → (Data ps → S.Denot → Ends ps → Type 0)
      → RelationalCallee 𝓛
  promising n ps S B Promise = record {
    lifetimes = n;
    passes = ps;
    result = S;
    by_value = B;
    clauses = λ κs a. record {
      ghost = Unit {0};
      requires = λ g. emp 𝓤;
      ensures = λ g r end. fact 𝓤 (Promise (data_of κs ps a) r (last-lists κs ps end));
    };
    ghost_at = λ κs h δs. tt;
    asks = λ h. Unit {0};
    Says = λ h r es. Promise (handed_data ps h) r es;
    enters = λ κs h δs ask. id⊢ 𝓤 (emp 𝓤);
    tells = λ κs h δs r ws ask. let a = args κs ps h δs in
        says_also 𝓤 (λ p. subst (λ (d : Data ps). Promise d r (ends κs ps a ws)) (same_data κs ps h δs)
        (subst (Promise (data_of κs ps a) r) (sym (same_lists κs ps a ws)) p));
  }

-- ---- by rules
-- the `ensures` of the result r and the last lists es, where the rules give r' and es'
pub record Telling (X Y : Type 0) : Type 1 where
  pub Says : X → Y → X → Y → Type 0
  pub exactly : (r : X) (es : Y) (r' : X) (es' : Y) → Says r es r' es' → (r ≡ r') × (es ≡ es')

abbrev pub the_result : {X : Type 0} → Telling X (Unit {0})
the_result = record { Says = λ r es r' es'. r ≡ r'; exactly = λ r es r' es' e. (e, refl) }

abbrev pub the_list : {Y : Type 0} → Telling (Unit {0}) (Y × Unit {0})
the_list = record { Says = λ r es r' es'. es.0 ≡ es'.0; exactly = λ r es r' es' e. (refl, λ i. (e i, tt)) }

abbrev pub result-and_list : {X Y : Type 0} → Telling X (Y × Unit {0})
result-and_list = record {
  Says = λ r es r' es'. (r ≡ r') × (es.0 ≡ es'.0);
  exactly = λ r es r' es' e. (e.0, λ i. (e.1 i, tt));
}

abbrev pub result-and-lists : {X Y Z : Type 0} → Telling X (Y × (Z × Unit {0}))
result-and-lists = record {
  Says = λ r es r' es'. (r ≡ r') × (es.0 ≡ es'.0) × (es.1.0 ≡ es'.1.0);
  exactly = λ r es r' es' e. (e.0, λ i. (e.1 i, (e.2 i, tt)));
}

module _ {M : Type 1} {𝓤 : Ura M} (𝓛 : Logic 𝓤) where
  abbrev pub stating : (n : ℕ) (ps : List (Pass n)) (S : RattleType) → ByValue S → Telling S.Denot (Ends ps)
      → (Data ps → S.Denot) → (Data ps → Ends ps) → Callee 𝓛
  stating n ps S B t rule lists = let c = promising 𝓛 n ps S B (λ d r es. t.Says r es (rule d) (lists d)) in record {
    lifetimes = n;
    passes = ps;
    result = S;
    by_value = B;
    clauses = c.clauses;
    ghost_at = c.ghost_at;
    asks = c.asks;
    answer = λ h. rule (handed_data ps h);
    leaves = λ h. lists (handed_data ps h);
    enters = c.enters;
    exact = λ κs h δs r ws ask. let es = ends κs ps (args κs ps h δs) ws in let d = handed_data ps h in
        via 𝓤 (fact 𝓤 (c.Says h r es)) (c.tells κs h δs r ws ask) (says_also 𝓤 (t.exactly r es (rule d) (lists d)));
  }

-- without lifetimes no list is lent
abbrev pub no_lists : (ps : List (Pass 0)) → Ends ps
no_lists [] = tt
no_lists (value R B ∷ ps) = no_lists ps
no_lists (lent j ok R ∷ ps) = absurd ok
no_lists (shown j ok R F ∷ ps) = absurd ok
no_lists (relayed j ok R B ∷ ps) = absurd ok

pub no_others : (ps : List (Pass 0)) (es es' : Ends ps) → es ≡ es'
no_others [] es es' = refl
no_others (value R B ∷ ps) es es' = no_others ps es es'
no_others (lent j ok R ∷ ps) es es' = absurd ok
no_others (shown j ok R F ∷ ps) es es' = absurd ok
no_others (relayed j ok R B ∷ ps) es es' = absurd ok

module _ {M : Type 1} {𝓤 : Ura M} (𝓛 : Logic 𝓤) where
  abbrev pub by-rule : (ps : List (Pass 0)) (S : RattleType) → ByValue S → (Data ps → S.Denot) → Callee 𝓛
  by-rule ps S B rule = stating 𝓛 0 ps S B record {
    Says = λ r es r' es'. r ≡ r';
    exactly = λ r es r' es' e. (e, no_others ps es es');
  } rule (λ d. no_lists ps)
