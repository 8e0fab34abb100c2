-- A job's text is read back as that job, and a text that is read is that job's.
use Rattle.std.specs.Prelude.{◌≡◌, ℕ, ◌<◌, ◌≤◌, cond, List, ◌++◌, length, take, drop, pos, Some, None, Ok, Err, Result, nat_le, refl}
use Rattle.std.proofs.Common.{sym, ap, subst, ◌∙◌, inl, inr, arith}
use borrow.Rule.Slice.PartMut.{put_mid}
use Rattle.std.proofs.ByRecursion.{All-append}
use Rattle.std.proofs.lemmas.Slice.Eq.{bytes_eq-Decides}
use Rattle.std.proofs.lemmas.List.{length-take-le, length-drop, take_all}
use Rattle.std.proofs.lemmas.Bool.{cases_Bool, cases_lt, lt-leb, cond-true, cond-false, leb-true, le-leb}
use Rattle.std.specs.Option.{ok_or}
use Rattle.std.specs.Str.{bytes_eq}
use Rattle.columns.specs.Faults.{at_column}
use Rattle.columns.specs.Number.{text, field}
use Rattle.columns.specs.declared.fault.ColumnFault.{ColumnFault}
use Rattle.columns.specs.declared.write_refusal.WriteRefusal.TheVariants.{Range}
use Rattle.columns.proofs.Laws.{text_below, length_text, length_field, printed_field, printed_blanks, unsigned_back, unsigned_only}
use Rattle.items.specs.ItemText.{Printed}
use Rattle.items.specs.Job.{number_most, block_word, sweep_word, flush_word, stop_word, no_number, numbered_text, job_text, numbered, number_reading, bare, job_of, job_reading}
use Rattle.items.specs.declared.job.Job.{Job}
use Rattle.items.specs.declared.job.Job.TheVariants.{Block, Sweep, Flush, Stop}
use Rattle.items.specs.Parts.{at_ok, whole_two, put_last}

numbered_is : (word : List ℕ) (n : ℕ) (cs : List ℕ) → numbered_text word n ≡ Some cs → (n ≤ number_most) × (word ++ field 9 (pos n) ≡ cs)
unfolding numbered_text
numbered_is word n cs e =
    elim (cases_Bool (nat_le n number_most)) [
      | inl is ↦ let f : Some (word ++ field 9 (pos n)) ≡ Some cs = sym (cond-true _ _ _ is) ∙ e in (leb-true n number_most is, cc)
      | inr is ↦ let f : None ≡ Some cs = sym (cond-false _ _ _ is) ∙ e in cc
    ]

pub number_length : (n : ℕ) → n ≤ number_most → length (field 9 (pos n)) ≡ 9
number_length n h = length_field 9 (pos n) (length_text 9 n (omega arith) (omega arith))

-- the number behind its word
number_back : (n : ℕ) → n ≤ number_most → number_reading (take 9 (field 9 (pos n))) ≡ Ok n
number_back n h =
    ap number_reading (take_all 9 (field 9 (pos n)) (omega (arith, number_length n h)))
    ∙ ap (at_column 7) (unsigned_back 9 0 number_most n (omega arith) (omega arith) (omega arith) h)

pub job_back : (j : Job) (cs : List ℕ) → job_text j ≡ Some cs → job_reading cs ≡ Ok j
unfolding job_reading
job_back (Block n) cs e = let h = numbered_is block_word n cs e in ap job_reading (sym h.1) ∙ ap (numbered Block) (number_back n h.0)
job_back (Sweep n) cs e = let h = numbered_is sweep_word n cs e in ap job_reading (sym h.1) ∙ ap (numbered Sweep) (number_back n h.0)
job_back Flush cs e = let f : flush_word ++ no_number ≡ cs = cc in ap job_reading (sym f)
job_back Stop cs e = let f : stop_word ++ no_number ≡ cs = cc in ap job_reading (sym f)

numbered_ok : (job : ℕ → Job) (r : Result ℕ ColumnFault) (j : Job) → numbered job r ≡ Ok j → (n : ℕ) × (r ≡ Ok n) × (job n ≡ j)
numbered_ok job (Ok n) j e = (n, refl, cc)
numbered_ok job (Err f) j e = cc

bare_ok : (job j : Job) (rest : List ℕ) → bare job rest ≡ Ok j → (rest ≡ no_number) × (job ≡ j)
bare_ok job j rest e =
    elim (cases_Bool (bytes_eq rest no_number)) [
      | inl is ↦ let f : ◌≡◌ {A = Result Job ColumnFault} (Ok job) (Ok j) = sym (cond-true _ _ _ is) ∙ e in ((bytes_eq-Decides rest no_number).0 is, cc)
      | inr is ↦ let f : ◌≡◌ {A = Result Job ColumnFault} (Err _) (Ok j) = sym (cond-false _ _ _ is) ∙ e in cc
    ]

-- a word with a number, read
numbered_only : (word rest : List ℕ) (job : ℕ → Job) (j : Job) → length rest ≡ 9 → ((n : ℕ) → job_text (job n) ≡ numbered_text word n) → numbered job (number_reading rest) ≡ Ok j → job_text j ≡ Some (word ++ rest)
unfolding numbered_text
numbered_only word rest job j n t e =
    let h = numbered_ok job (number_reading rest) j e in
    let k = unsigned_only 0 number_most rest h.0 (at_ok 7 _ _ h.1) in
    ap job_text (sym h.2) ∙ t h.0 ∙ cond-true _ _ _ (le-leb h.0 number_most k.2)
    ∙ ap (λ l. Some (word ++ l)) (ap (λ w. field w (pos h.0)) (sym n) ∙ sym k.0)

bare_only : (word rest : List ℕ) (job j : Job) → job_text job ≡ Some (word ++ no_number) → bare job rest ≡ Ok j → job_text j ≡ Some (word ++ rest)
bare_only word rest job j t e = let h = bare_ok job j rest e in ap job_text (sym h.1) ∙ t ∙ ap (λ l. Some (word ++ l)) (sym h.0)

-- one word after another
tried : (word known rest : List ℕ) (j : Job) (x y : Result Job ColumnFault) → (x ≡ Ok j → job_text j ≡ Some (known ++ rest)) → (y ≡ Ok j → job_text j ≡ Some (word ++ rest)) → cond (bytes_eq word known) x y ≡ Ok j → job_text j ≡ Some (word ++ rest)
tried word known rest j x y hx hy e =
    elim (cases_Bool (bytes_eq word known)) [
      | inl is ↦ hx (sym (cond-true _ _ _ is) ∙ e) ∙ ap (λ l. Some (l ++ rest)) (sym ((bytes_eq-Decides word known).0 is))
      | inr is ↦ hy (sym (cond-false _ _ _ is) ∙ e)
    ]

job_of_only : (word rest : List ℕ) (j : Job) → length rest ≡ 9 → job_of word rest ≡ Ok j → job_text j ≡ Some (word ++ rest)
job_of_only word rest j n e =
    tried word block_word rest j _ _ (numbered_only block_word rest Block j n (λ m. refl))
    (tried word sweep_word rest j _ _ (numbered_only sweep_word rest Sweep j n (λ m. refl))
    (tried word flush_word rest j _ _ (bare_only flush_word rest Flush j refl)
    (tried word stop_word rest j _ _ (bare_only stop_word rest Stop j refl) (λ f. cc)))) e

pub job_only : (cs : List ℕ) (j : Job) → length cs ≡ 15 → job_reading cs ≡ Ok j → job_text j ≡ Some cs
unfolding job_reading
job_only cs j n e =
    job_of_only (take 6 cs) (take 9 (drop 6 cs)) j (length-take-le 9 (drop 6 cs) (omega (arith, length-drop 6 cs))) e ∙ ap (λ l. Some l) (whole_two cs 6 9 n)

pub job_wide : (j : Job) (cs : List ℕ) → job_text j ≡ Some cs → length cs ≡ 15
job_wide (Block n) cs e = let h = numbered_is block_word n cs e in ap length (sym h.1) ∙ omega (arith, number_length n h.0)
job_wide (Sweep n) cs e = let h = numbered_is sweep_word n cs e in ap length (sym h.1) ∙ omega (arith, number_length n h.0)
job_wide Flush cs e = let f : flush_word ++ no_number ≡ cs = cc in ap length (sym f)
job_wide Stop cs e = let f : stop_word ++ no_number ≡ cs = cc in ap length (sym f)

printed_word : (word rest cs : List ℕ) → word ++ rest ≡ cs → Printed word → Printed rest → Printed cs
printed_word word rest cs e p q = subst Printed e (All-append _ word rest p q)

pub job_printed : (j : Job) (cs : List ℕ) → job_text j ≡ Some cs → Printed cs
job_printed (Block n) cs e = printed_word block_word _ cs (numbered_is block_word n cs e).1 (search arith) (printed_field 9 (pos n))
job_printed (Sweep n) cs e = printed_word sweep_word _ cs (numbered_is sweep_word n cs e).1 (search arith) (printed_field 9 (pos n))
job_printed Flush cs e = printed_word flush_word no_number cs (cc) (search arith) (printed_blanks 9)
job_printed Stop cs e = printed_word stop_word no_number cs (cc) (search arith) (printed_blanks 9)

-- the writer's two ends

pub number_fits : (n : ℕ) → length (text (pos n)) ≤ 9 → n ≤ number_most
number_fits n h = omega (arith, text_below 9 n h)

pub numbered_put : (word old last : List ℕ) (n : ℕ) → length word ≡ 6 → length old ≡ 9 → last ≡ field 9 (pos n) → length (text (pos n)) ≤ 9 → Ok (put_mid 6 9 (word ++ old) last) ≡ ok_or (numbered_text word n) Range
unfolding numbered_text
numbered_put word old last n e o f h =
    ap (λ l. Ok l) (put_last word old last 6 9 e o ∙ ap (λ l. word ++ l) f)
    ∙ ap (λ t. ok_or t Range) (sym (cond-true (nat_le n number_most) (Some (word ++ field 9 (pos n))) None (le-leb n number_most (number_fits n h))))

pub numbered_past : (word : List ℕ) (n : ℕ) → 9 < length (text (pos n)) → ok_or (numbered_text word n) Range ≡ Err Range
unfolding numbered_text
numbered_past word n h =
    ap (λ t. ok_or t Range)
    (cond-false (nat_le n number_most) (Some (word ++ field 9 (pos n))) None
    (elim (cases_lt number_most n) [ inl past ↦ lt-leb n number_most past | inr small ↦ absurd (omega (arith, length_text 9 n (omega arith) (omega arith))) ]))
