-- What the tests of a value say.
use Rattle.std.proofs.Common.{◌≡◌, true, false, Some, None, sym, refl, ap}
use Rattle.std.proofs.lemmas.Bool.{eqb-true}
use Rattle.tickets.specs.declared.WorkerNo.{WorkerNo}
use Rattle.ring.specs.declared.table.Value.{Value}
use Rattle.ring.specs.declared.table.Value.TheVariants.{Empty, Token, Item}
use Rattle.ring.specs.Table.{occupied}
use Rattle.ring.specs.Turns.{still, is_empty}
use Rattle.ring.specs.Laws.{item_of}
use Rattle.ring.proofs.Equals.{same_number}

module _ {I : Type 0} where
  pub empty_from : (v : Value I) → is_empty v ≡ true → v ≡ Empty
  empty_from Empty e = refl
  empty_from (Token n) e = cc
  empty_from (Item i) e = cc

  -- what is still as read is no item
  pub still_free : (v u : Value I) → still v u ≡ true → occupied u ≡ false
  still_free Empty Empty e = refl
  still_free Empty (Token m) e = refl
  still_free Empty (Item j) e = cc
  still_free (Token n) Empty e = refl
  still_free (Token n) (Token m) e = refl
  still_free (Token n) (Item j) e = cc
  still_free (Item i) u e = cc

  pub still_own : (n : WorkerNo) (u : Value I) → still (Token n) u ≡ true → u ≡ Token n
  still_own n Empty e = cc
  still_own n (Token m) e = ap Token (sym (same_number (eqb-true n.0 m.0 e)))
  still_own n (Item j) e = cc

  pub item_back : (v : Value I) (i : I) → item_of v ≡ Some i → v ≡ Item i
  item_back Empty i e = cc
  item_back (Token n) i e = cc
  item_back (Item j) i e = cc

  pub free_item : (v : Value I) → occupied v ≡ false → item_of v ≡ None
  free_item Empty e = refl
  free_item (Token m) e = refl
  free_item (Item i) e = cc

  pub occupied_by_item : (u v : Value I) → item_of u ≡ item_of v → occupied u ≡ occupied v
  occupied_by_item Empty Empty e = refl
  occupied_by_item Empty (Token n) e = refl
  occupied_by_item Empty (Item j) e = cc
  occupied_by_item (Token m) Empty e = refl
  occupied_by_item (Token m) (Token n) e = refl
  occupied_by_item (Token m) (Item j) e = cc
  occupied_by_item (Item i) Empty e = cc
  occupied_by_item (Item i) (Token n) e = cc
  occupied_by_item (Item i) (Item j) e = refl
