-- Pairs in the order in which a cell has them.
use Rattle.std.specs.Prelude.{◌≡◌, ℕ, ◌+◌, ◌<◌, ◌≤◌, Bool, true, false, not, refl}
use Rattle.std.proofs.Common.{ap, arith}
use Rattle.ring.specs.declared.table.Pair.{Pair}
use Rattle.ring.specs.Table.{one_if}

abbrev pub key : Pair → ℕ
key p = p.epoch.0 + p.epoch.0 + one_if (not p.safe)

pair_by : {p q : Pair} → p.safe ≡ q.safe → p.epoch.0 ≡ q.epoch.0 → p ≡ q
pair_by e f = λ i. record { safe = e i; epoch = record { 0 = f i } }

bit_small : (b : Bool) → one_if (not b) ≤ 1
bit_small true = omega arith
bit_small false = omega arith

pub key_exact : (p q : Pair) → key p ≡ key q → p ≡ q
key_exact p q e = go p.safe q.safe refl refl
  where
    go : (a b : Bool) → p.safe ≡ a → q.safe ≡ b → p ≡ q
    go true true f g = let x = ap (λ z. one_if (not z)) f in let y = ap (λ z. one_if (not z)) g in pair_by (cc) (omega arith)
    go true false f g = let x = ap (λ z. one_if (not z)) f in let y = ap (λ z. one_if (not z)) g in absurd (omega arith)
    go false true f g = let x = ap (λ z. one_if (not z)) f in let y = ap (λ z. one_if (not z)) g in absurd (omega arith)
    go false false f g = let x = ap (λ z. one_if (not z)) f in let y = ap (λ z. one_if (not z)) g in pair_by (cc) (omega arith)

pub key_up : (p q : Pair) → p.epoch.0 < q.epoch.0 → key p ≤ key q
key_up p q h = omega (arith, bit_small p.safe)

pub key_unsafe : (p : Pair) → key p ≤ key (record { safe = false; epoch = p.epoch })
key_unsafe p = omega (arith, bit_small p.safe)

pub key_epoch : (p q : Pair) → key p ≤ key q → p.epoch.0 ≤ q.epoch.0
key_epoch p q h = omega (arith, bit_small p.safe, bit_small q.safe)

-- a pair that was read, p, is found again in a cell that went on from q to q'
pub no_newer : (p q q' : Pair) → key p ≤ key q → key q ≤ key q' → p ≡ q' → q' ≡ q
no_newer p q q' h g e = let f = ap key e in key_exact q' q (omega arith)
