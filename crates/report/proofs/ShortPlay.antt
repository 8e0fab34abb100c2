-- A play without fault is short, and so is its body.
use Rattle.std.proofs.Common.{◌≡◌, ℕ, ◌≤◌, ltb, List, length, Ok, sym, ap, ◌∙◌, inl, inr, arith}
use Rattle.std.proofs.lemmas.List.{length-append}
use Rattle.std.proofs.lemmas.Bool.{cases_Bool, cond-true, ltb-false}
use Rattle.play.specs.Play.{PlainPlay, longest, play_reading}
use Rattle.play.specs.Text.{header_text, orders_text, play_text}

short_play : (bytes : List ℕ) (p : PlainPlay) → play_reading bytes ≡ Ok p → length bytes ≤ 60000
short_play bytes p e =
    elim (cases_Bool (ltb longest (length bytes))) [
      | inl long ↦ let no' = sym (cond-true (ltb longest (length bytes)) _ _ long) ∙ e in cc
      | inr short ↦ ltb-false longest (length bytes) short
    ]

pub short_body : (bytes body : List ℕ) (p : PlainPlay) → play_reading bytes ≡ Ok p → bytes ≡ play_text p → body ≡ orders_text p.orders → length body ≤ 60000
short_body bytes body p e text is =
    omega (arith, short_play bytes p e, ap length text, ap length is, length-append (header_text p.header) (orders_text p.orders))
