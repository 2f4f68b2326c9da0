-- What a device does keeps to its delays.
use Rattle.std.proofs.Common.{◌≡◌, ℕ, ◌+◌, ◌<◌, ◌≤◌, ◌==◌, nat_lt, max, Bool, true, false, not, ◌&&◌, ◌||◌, Some, None}
use Rattle.std.proofs.Common.{if◌then◌else◌, refl, sym, ap, ◌∙◌, arith, ltb-true, ltb-false, le-ltb}
use Rattle.pr_device.specs.declared.place.Place.{Place}
use Rattle.pr_device.specs.declared.place.Place.TheVariants.{Between, Sent, Opening, Bits}
use Rattle.pr_device.specs.declared.timing.Timing.{Timing}
use Rattle.pr_device.specs.Data.{Standing, pulls, pulls_at, calls, leaves, is_away}
use Rattle.pr_device.specs.Laws.{DelaysAreKept}
use Rattle.pr_device.proofs.Tests.{or-right, and-false}
use Rattle.pr_device.proofs.Stepping.{left-true, right-true}
use Rattle.pr_device.proofs.Walking.{chosen, refused}

pub not-true : (b : Bool) → not b ≡ true → b ≡ false
not-true false h = refl
not-true true h = absurd (let k : false ≡ true = h in cc)

-- the rule where somebody speaks to the device, at a place
pub near : (t : Timing) (until : ℕ) (before : Bool) (s : Standing) (now : ℕ) (p : Place) → is_away s ≡ false
    → s.place ≡ p → pulls t until before s now ≡ pulls_at t until before s p now
near t until before s now p a e =
    refused (is_away s) (leaves t before s.since now) (pulls_at t until before s s.place now) a
    ∙ ap (λ q. pulls_at t until before s q now) e

pub delays-kept : DelaysAreKept
delays-kept t until before s now w = record {
  called = λ since x e k h.
      let m : t.attention ≤ 1000 = w.attention.to in
      near t until before s now Between (ap (λ y. y && not s.listens) x) e
      ∙ (ap (λ y. if y then not s.clock else calls t before s.since now) x
      ∙ (ap (λ o. calls t before o now) k
      ∙ or-right before (not (nat_lt now (since + t.attention)))
      (ap not (le-ltb now (since + t.attention) (omega arith)))));
  accepted = λ pull a e h.
      let m : t.accept ≤ 80 = w.accept.to in
      near t until before s now (Sent pull) a e
      ∙ or-right before (not (nat_lt now (pull + t.accept))) (ap not (le-ltb now (pull + t.accept) (omega arith)));
  released = λ look eoi a e h k.
      let m : max (look + t.hold) until ≤ now = omega arith in
      near t until before s now (Opening look None eoi) a e
      ∙ and-false (before || now == look) (nat_lt now (max (look + t.hold) until))
      (le-ltb now (max (look + t.hold) until) m);
  answers = λ look free eoi a e h.
      let k : (s.atn && (not (nat_lt now (free + t.wait)) && nat_lt now (free + t.wait + t.answer))) ≡ true =
      sym (near t until before s now (Opening look (Some free) eoi) a e) ∙ h in
      let r : (not (nat_lt now (free + t.wait)) && nat_lt now (free + t.wait + t.answer)) ≡ true =
      right-true s.atn _ k in
      let from : free + t.wait ≤ now =
      ltb-false now (free + t.wait)
      (not-true (nat_lt now (free + t.wait))
      (left-true (not (nat_lt now (free + t.wait))) (nat_lt now (free + t.wait + t.answer)) r)) in
      let to : now < free + t.wait + t.answer =
      ltb-true now (free + t.wait + t.answer)
      (right-true (not (nat_lt now (free + t.wait))) (nat_lt now (free + t.wait + t.answer)) r) in
      let w1 : 200 ≤ t.wait = w.wait.from in
      let w2 : t.wait ≤ 250 = w.wait.to in
      let w3 : t.answer ≤ 200 = w.answer.to in
      (left-true s.atn _ k, omega arith, omega arith);
  bits = λ eoi count byte a e. near t until before s now (Bits eoi count byte) a e;
  leaves = λ since a e h.
      let d : t.leave ≤ 60 = w.leave.to in
      chosen (is_away s) (leaves t before s.since now) (pulls_at t until before s s.place now) a
      ∙ (ap (λ o. leaves t before o now) e
      ∙ and-false before (nat_lt now (since + t.leave)) (le-ltb now (since + t.leave) (omega arith)));
}
