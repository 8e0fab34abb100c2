-- What laying out leaves: a new table, whose books close, or all as it was.
use Rattle.std.proofs.Common.{◌≡◌, ℕ, ◌≤◌, true, ◌&&◌, leb, List, length, Ok, Err, Result, sym, ap, subst}
use Rattle.std.proofs.lemmas.Bool.{cond_both, leb-true, and_parts}
use Rattle.ring.specs.declared.table.Cell.{Cell}
use Rattle.ring.specs.declared.table.Worker.{Worker}
use Rattle.ring.specs.declared.control.Control.{Control}
use Rattle.ring.specs.declared.answers.Refusal.{Refusal}
use Rattle.ring.specs.declared.answers.Refusal.TheVariants.{Ring, Crew}
use Rattle.ring.specs.Table.{Counters, Table, InRange, laid_out}
use Rattle.ring.specs.Ledger.{blank}
use Rattle.ring.specs.Books.{Sound}
use Rattle.ring.proofs.Books.{new_sound}
use Rattle.engine.specs.Engine.{counters}
use Rattle.calls.specs.Promise.{table}
use Rattle.calls.specs.Laying.{Laying, counters_of, ring_fits, crew_fits, laying, Opens}

range_from : (a b : ℕ) → (leb 1 a && leb a b) ≡ true → (1 ≤ a) × (a ≤ b)
range_from a b e = let p = and_parts (leb 1 a) (leb a b) e in (leb-true 1 a p.0, leb-true a b p.1)

never : {A : Type 0} {k : Counters} (x : Refusal) → ◌≡◌ {A = Result Counters Refusal} (Ok k) (Err x) → A
never x e = cc

module _ {I : Type 0} where
  abbrev pub at_exit : Result Control Refusal → List (Cell I) → List (Worker I) → Laying I
  at_exit r cs ws = record { control = counters_of r; cells = cs; workers = ws }

  -- what the equation of laying out says where it was done
  pub laying_done : (c : Control) (cs xs : List (Cell I)) (ws ys : List (Worker I)) → at_exit (Ok c) cs ws ≡ laying xs ys
      → InRange (length xs) (length ys) × (table c cs ws ≡ laid_out (length xs) (length ys))
  laying_done c cs xs ws ys e =
      cond_both (ring_fits (length xs)) _ _ (λ l. at_exit (Ok c) cs ws ≡ l → InRange (length xs) (length ys) × (table c cs ws ≡ laid_out (length xs) (length ys)))
      (λ a. cond_both (crew_fits (length ys)) _ _ (λ l. at_exit (Ok c) cs ws ≡ l → InRange (length xs) (length ys) × (table c cs ws ≡ laid_out (length xs) (length ys)))
      (λ b f.
      let p = range_from (length xs) 1024 a in
      let q = range_from (length ys) 64 b in
      let g : ◌≡◌ {A = Result Counters Refusal} (Ok (counters c)) (Ok (laid_out {I = I} (length xs) (length ys)).counters) = ap (λ (x : Laying I). x.control) f in
      let k : counters c ≡ (laid_out {I = I} (length xs) (length ys)).counters = cc in
      ((p.0, p.1, q.0, q.1), λ i. record { counters = k i; cells = (f i).cells; workers = (f i).workers }))
      (λ _ f. never Crew (ap (λ (x : Laying I). x.control) f)))
      (λ _ f. never Ring (ap (λ (x : Laying I). x.control) f))
      e

  pub opens : (r : Result Control Refusal) (cs xs : List (Cell I)) (ws ys : List (Worker I)) → at_exit r cs ws ≡ laying xs ys → Opens r cs ws
  opens (Err x) cs xs ws ys e = tt
  opens (Ok c) cs xs ws ys e =
      let d = laying_done c cs xs ws ys e in (
        subst (λ (t : Table I). InRange t.counters.cells t.counters.workers) (sym d.1) d.0,
        subst (λ (t : Table I). Sound (record { table = t; ledger = blank })) (sym d.1) (new_sound (length xs) (length ys) d.0),
      )
