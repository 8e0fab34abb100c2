-- The test that a pair is still as read.
use Rattle.std.proofs.Common.{◌≡◌, Bool, true, false, cond, not, eqb, refl}
use Rattle.std.proofs.lemmas.Bool.{eqb-true, eq-eqb, and_parts, and_from}
use Rattle.ring.specs.declared.table.Pair.{Pair}
use Rattle.ring.specs.Turns.{same_pair}

same_flag : (x y : Bool) → cond x y (not y) ≡ true → x ≡ y
same_flag true true e = refl
same_flag true false e = cc
same_flag false true e = cc
same_flag false false e = refl

flag_same : (x : Bool) → cond x x (not x) ≡ true
flag_same true = refl
flag_same false = refl

pub pair_from : (p q : Pair) → same_pair p q ≡ true → p ≡ q
pair_from p q e =
    let a = and_parts (cond p.safe q.safe (not q.safe)) (eqb p.epoch.0 q.epoch.0) e in
    let s = same_flag p.safe q.safe a.0 in
    let n = eqb-true p.epoch.0 q.epoch.0 a.1 in
    λ i. record { safe = s i; epoch = record { 0 = n i } }

pub pair_same : (p : Pair) → same_pair p p ≡ true
pair_same p = and_from (cond p.safe p.safe (not p.safe)) (eqb p.epoch.0 p.epoch.0) (flag_same p.safe) (eq-eqb p.epoch.0 p.epoch.0 refl)
