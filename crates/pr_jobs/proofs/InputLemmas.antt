-- An input whose edges are read block by block.
use Rattle.std.proofs.Common.{◌≡◌, ◌⊎◌, ℕ, ◌-◌, ◌<◌, ◌≤◌, List, [], ◌∷◌, ◌++◌, length, take, drop, refl, ap, sym, subst, ◌∙◌, arith, append-nil, append_assoc, length-append, take-append-drop, inl, inr, Option, Some, None, Result, Ok, Err}
use Rattle.std.specs.Prelude.{IfOk, IfSome}
use Rattle.std.specs.Option.{option_to_list}
use Rattle.std.specs.Io.KnownBytes.{Consumes, IsAtEnd}
use Rattle.std.proofs.KnownBytes.{Consumes-nil, Consumes-trans}
use Rattle.pr_wire.specs.declared.Edge.{Edge}
use Rattle.pr_capture.specs.declared.format.TraceInput.{TraceInput}
use Rattle.pr_jobs.specs.Inputs.{AddsSample, EachTextSaysEdges, EndsSource, GivesBlock, HasEdges, HasReached, HasReachedOr, HasReadEdges, ReadEdgesComeFirst, SaysFirst, SkipsFront, edges_in, edges_read, fault_read}
use Rattle.pr_jobs.specs.InputReads.{GivesEdges, IsTooLong, ReadsEdges, SaysAll, EndsInputs, EndsInput, GivesMore, GivesRepeats, MakesAll, MakesMore, MakesNone, RefusesInput}
use Rattle.pr_jobs.specs.EdgesTaken.{EndsReading, HasTakenAll, HasTakenBefore}
use Rattle.pr_jobs.specs.Report.{SaysWhole, edges_made, Says, SaysSamples, IsOwnFault}
use Rattle.pr_jobs.specs.Sources.{EachTextSaysSamples, GivenSamplesComeFirst, HasGiven, HasMade, MadeEdgesComeFirst}
use Rattle.pr_jobs.specs.declared.edge_maker.EdgeMaker.{EdgeMaker}
use Rattle.pr_jobs.specs.declared.edge_reader.EdgeReader.{EdgeReader}
use Rattle.pr_jobs.specs.declared.edge_reader.LastEdges.{LastEdges}
use Rattle.pr_jobs.specs.declared.input_reader.InputReader.{InputReader}
use Rattle.pr_jobs.specs.declared.source_reader.SourceReader.{SourceReader}
use Rattle.pr_jobs.specs.declared.fault.CliFault.{CliFault}
use Rattle.pr_jobs.specs.declared.fault.CliFault.TheVariants.{NoMemory}
use Rattle.pr_jobs.proofs.KnownSteps.{too_many}

-- a fault that is no lack of memory is the input's own
own_is : (P Q : Type 0) (f : CliFault) → (f ≡ NoMemory → ⊥) → (f ≡ NoMemory) ⊎ (P × Q) → P × Q
own_is P Q f n (inl m) = absurd (n m)
own_is P Q f n (inr o) = o

-- a sample makes an edge known, or none
pub adds_edge : (o : Option Edge) (s e : Edge) (there all : List Edge) (old new : EdgeMaker) → o ≡ Some s → MakesMore s old (Some e) new → all ≡ there ++ e ∷ [] → AddsSample o there old all new
adds_edge o s e there all old new is makes items = rw is (λ input samples before h.
    let P : List Edge → Type 0 = λ l. HasMade input (samples ++ s ∷ []) l new in
    subst P (append_assoc before there (e ∷ []) ∙ ap (λ l. before ++ l) (sym items)) (makes input samples (before ++ there) h))

pub adds_no_edge : (o : Option Edge) (s : Edge) (there : List Edge) (old new : EdgeMaker) → o ≡ Some s → MakesMore s old None new → AddsSample o there old there new
adds_no_edge o s there old new is makes = rw is (λ input samples before h.
    let P : List Edge → Type 0 = λ l. HasMade input (samples ++ s ∷ []) l new in
    subst P (append-nil (before ++ there)) (makes input samples (before ++ there) h))

-- a front of a block was taken, and the edges known by it were added
pub record TakesFront (block rest : List ℕ) (there : List Edge) (r : SourceReader) (m : EdgeMaker) (all : List Edge) (s : SourceReader) (n : EdgeMaker) : Type 0 where
  pub front : List ℕ
  pub whole : block ≡ front ++ rest
  pub taken : (input : TraceInput) (text : List ℕ) (before : List Edge) → HasReached input text (before ++ there) r m → HasReached input (text ++ front) (before ++ all) s n

pub front_none : (block : List ℕ) (there : List Edge) (r : SourceReader) (m : EdgeMaker) → TakesFront block block there r m there r m
front_none block there r m = record {
  front = [];
  whole = refl;
  taken = λ input text before h. let P : List ℕ → Type 0 = λ v. HasReached input v (before ++ there) r m in subst P (sym (append-nil text)) h;
}

pub front_more : (block rest : List ℕ) (there all next : List Edge) (r s v : SourceReader) (m n o : EdgeMaker) (len : ℕ) (sample : Option Edge) → TakesFront block rest there r m all s n
    → GivesMore (take len rest) sample s v → AddsSample sample all n next o → TakesFront block (drop len rest) there r m next v o
front_more block rest there all next r s v m n o len sample f gives adds = record {
  front = f.front ++ take len rest;
  whole = f.whole ∙ (ap (λ l. f.front ++ l) (sym (take-append-drop len rest)) ∙ sym (append_assoc f.front (take len rest) (drop len rest)));
  taken = λ input text before h.
      let k = f.taken input text before h in
      let P : List ℕ → Type 0 = λ l. HasGiven input l (k.samples ++ option_to_list sample) v in
      record {
        samples = k.samples ++ option_to_list sample;
        given = subst P (append_assoc text f.front (take len rest)) (gives input (text ++ f.front) k.samples k.given);
        made = adds input k.samples before k.made;
      };
}

-- samples were taken that make no edge
pub skips_front : (bytes : List ℕ) (last : Edge) (r s : SourceReader) (m n : EdgeMaker) → GivesRepeats bytes last r s → MakesNone last m n → SkipsFront bytes r m s n
skips_front bytes last r s m n gives makes = λ input text edges h.
    let k = gives input text h.samples h.given in
    record { samples = (h.samples ++ k.0) ++ last ∷ []; given = k.2; made = makes k.0 k.1 input h.samples edges h.made }

pub skips_none : (n : ℕ) (block : List ℕ) (r : SourceReader) (m : EdgeMaker) → n ≡ 0 → SkipsFront (take n block) r m r m
skips_none n block r m z = λ input text edges h.
    let P : List ℕ → Type 0 = λ t. HasReached input t edges r m in
    subst P (sym (ap (λ i. text ++ take i block) z ∙ append-nil text)) h

pub front_skipped : (block rest : List ℕ) (there all : List Edge) (r s v : SourceReader) (m n o : EdgeMaker) (len : ℕ) → TakesFront block rest there r m all s n
    → SkipsFront (take len rest) s n v o → TakesFront block (drop len rest) there r m all v o
front_skipped block rest there all r s v m n o len f skips = record {
  front = f.front ++ take len rest;
  whole = f.whole ∙ (ap (λ l. f.front ++ l) (sym (take-append-drop len rest)) ∙ sym (append_assoc f.front (take len rest) (drop len rest)));
  taken = λ input text before h.
      let P : List ℕ → Type 0 = λ l. HasReached input l (before ++ all) v o in
      subst P (append_assoc text f.front (take len rest)) (skips input (text ++ f.front) (before ++ all) (f.taken input text before h));
}

-- or none were
pub front_kept : (block rest : List ℕ) (there all : List Edge) (r s v : SourceReader) (m n o : EdgeMaker) (len : ℕ) → len ≡ 0 → TakesFront block rest there r m all s n
    → SkipsFront (take len rest) s n v o → TakesFront block rest there r m all v o
front_kept block rest there all r s v m n o len z f skips = record {
  front = f.front;
  whole = f.whole;
  taken = λ input text before h.
      let P : List ℕ → Type 0 = λ l. HasReached input l (before ++ all) v o in
      let none : take len rest ≡ [] = ap (λ i. take i rest) z in
      subst P (ap (λ l. (text ++ f.front) ++ l) none ∙ append-nil (text ++ f.front)) (skips input (text ++ f.front) (before ++ all) (f.taken input text before h));
}

-- all of it was
pub front_all : (block rest : List ℕ) (there all : List Edge) (r s : SourceReader) (m n : EdgeMaker) → rest ≡ [] → TakesFront block rest there r m all s n → GivesBlock block there r m None all s n
front_all block rest there all r s m n e f = λ input text before h.
    let P : List ℕ → Type 0 = λ l. HasReached input (text ++ l) (before ++ all) s n in
    subst P (sym (f.whole ∙ (ap (λ l. f.front ++ l) e ∙ append-nil f.front))) (f.taken input text before h)

-- or all up to the input's fault
pub front_faulty : (block rest : List ℕ) (there all : List Edge) (r s v : SourceReader) (m n : EdgeMaker) (f g : CliFault) → g ≡ f → (f ≡ NoMemory → ⊥) → RefusesInput rest s f
    → TakesFront block rest there r m all s n → GivesBlock block there r m (Some g) all v n
front_faulty block rest there all r s v m n f g same other refuses k =
    let own = own_is _ _ f other refuses in
    rw same (λ input text before h. (
      own.0,
      λ more.
          let a = k.taken input text before h in
          let whole : ((text ++ k.front) ++ rest) ++ more ≡ (text ++ block) ++ more = ap (λ l. l ++ more) (append_assoc text k.front rest ∙ ap (λ l. text ++ l) (sym k.whole)) in
          let P : List ℕ → Type 0 = λ l. SaysSamples input input.source l a.samples (Some f) in
          record { samples = a.samples; says = subst P whole (own.1 input (text ++ k.front) a.samples a.given more); made = a.made },
    ))

-- an input that ends here
pub ends_well : (r : SourceReader) (m n : EdgeMaker) (there all last : List Edge) (sample : Option Edge) → EndsInput r (Ok sample) → AddsSample sample there m all n → MakesAll n all last
    → EndsSource r m there last None
ends_well r m n there all last sample ends adds done = λ input text before h. (
  record {
    samples = h.samples ++ option_to_list sample;
    are_samples = ends input text h.samples h.given;
    are_edges = done input (h.samples ++ option_to_list sample) before (adds input h.samples before h.made);
  },
  tt,
)

-- or has a fault at its end
pub ends_faulty : (r : SourceReader) (m : EdgeMaker) (there all : List Edge) (f g : CliFault) → g ≡ f → (f ≡ NoMemory → ⊥) → EndsInput r (Err f) → MakesAll m there all → EndsSource r m there all (Some g)
ends_faulty r m there all f g same other ends done =
    let own = own_is _ _ f other ends in
    rw same (λ input text before h. (
      record { samples = h.samples; are_samples = own.1 input text h.samples h.given; are_edges = done input h.samples before h.made },
      own.0,
    ))

-- nothing was taken
pub edges_none : (input : TraceInput) (r : EdgeReader) → r.fault ≡ None → r.edges.items ≡ [] → HasGiven input [] [] r.reader → HasMade input [] [] r.maker → HasEdges input [] [] r
edges_none input r is empty given made =
    rw (is, empty) (record { samples = []; given = given; made = made })

-- the edges of the last block were forgotten
pub edges_forgotten : (old new : EdgeReader) → new.reader ≡ old.reader → new.maker ≡ old.maker → new.fault ≡ old.fault → new.edges.items ≡ [] → GivesEdges [] old new
edges_forgotten old new r m f empty = λ input text given h.
    let P : List ℕ → List Edge → Type 0 = λ t es. HasReachedOr input t es old.reader old.maker old.fault in
    rw (r, m, f, empty) (subst (λ t. P t ((given ++ edges_in old) ++ [])) (sym (append-nil text)) (subst (P text) (sym (append-nil (given ++ edges_in old))) h))

-- a block was taken
pub edges_more : (block : List ℕ) (there : List Edge) (old new : EdgeReader) (fault : Option CliFault) → old.fault ≡ None → there ≡ [] → new.fault ≡ fault
    → GivesBlock block there old.reader old.maker fault new.edges.items new.reader new.maker → GivesEdges block old new
edges_more block there old new fault was empty is gives = λ input text given h.
    let k : HasReached input text (given ++ edges_in old) old.reader old.maker = rw was at h in
    let P : List Edge → Type 0 = λ es. HasReached input text es old.reader old.maker in
    let none : GivesBlock block [] old.reader old.maker fault new.edges.items new.reader new.maker = rw empty at gives in
    rw is (none input text (given ++ edges_in old) (subst P (sym (append-nil (given ++ edges_in old))) k))

-- an input whose fault has come
pub says_refused : (r : EdgeReader) (f : CliFault) (last : LastEdges) → r.fault ≡ Some f → last.fault ≡ Some f → MakesAll r.maker (edges_in r) last.edges.items → SaysAll r last
says_refused r f last is same done = λ input text more given h leftover.
    let k : HasReachedOr input text (given ++ edges_in r) r.reader r.maker (Some f) = rw is at h in
    let s = k.1 more in
    rw same (record { samples = s.samples; are_samples = s.says; are_edges = done input s.samples given s.made }, k.0)

-- or has not
pub says_open : (r : EdgeReader) (last : LastEdges) → r.fault ≡ None → EndsSource r.reader r.maker (edges_in r) last.edges.items last.fault → SaysAll r last
says_open r last is ends = λ input text more given h leftover.
    let k : HasReachedOr input text (given ++ edges_in r) r.reader r.maker None = rw is at h in
    let P : List ℕ → Type 0 = λ l. Says input l (given ++ last.edges.items) last.fault × IfSome last.fault IsOwnFault in
    subst P (sym (ap (λ l. text ++ l) (leftover is) ∙ append-nil text)) (ends input text given k)

-- Reading blocks.

-- nothing was read
pub reads_none : (limit : ℕ) (start : Option (List ℕ)) (input : TraceInput) (r : InputReader) → HasEdges input [] [] r.edges → r.left ≡ limit → HasReadEdges limit start start input [] r
reads_none limit start input r known left = record { text = []; taken = Consumes-nil start; known = known; room = omega (arith, left) }

-- a block was read
pub reads_more : (a b : Option (List ℕ)) (r s : InputReader) (count : ℕ) (block : List ℕ) → Consumes a b block → length block ≡ count → count ≤ r.left → s.left ≡ r.left - count
    → GivesEdges block r.edges s.edges → ReadsEdges a b r s
reads_more a b r s count block k l w left gives = λ limit start input given h. record {
  text = h.text ++ block;
  taken = Consumes-trans start a b h.text block h.taken k;
  known = gives input h.text given h.known;
  room = omega (arith, length-append h.text block, h.room);
}

-- nothing was read at the end
pub reads_end : (a b : Option (List ℕ)) (r s : InputReader) (n : ℕ) (bytes : List ℕ) → n ≡ 0 → Consumes a b (take n bytes) → s.left ≡ r.left → GivesEdges [] r.edges s.edges → ReadsEdges a b r s
reads_end a b r s n bytes z k left gives =
    let none : Consumes a b [] = rw z at k in
    reads_more a b r s 0 [] none refl (omega arith) (omega (arith, left)) gives

-- more bytes came than the limit
pub reads_too_many : (a b : Option (List ℕ)) (r : InputReader) (block : List ℕ) → Consumes a b block → r.left < length block → IsTooLong a r
reads_too_many a b r block k more = λ limit start input given h. too_many start a b h.text block limit h.taken k (omega (arith, h.room, more))

-- what holds of the bytes read, whatever follows, holds of all
at_once : (P : List ℕ → Type 0) (start now : Option (List ℕ)) (text : List ℕ) → Consumes start now text → ((more : List ℕ) → now ≡ Some more → P (text ++ more)) → IfSome start P
at_once P None now text c p = tt
at_once P (Some xs) None text c p = absurd c
at_once P (Some xs) (Some ys) text c p = subst P (sym c) (p ys refl)

-- what an input says that ends here, or has had its fault
pub inputs_end : (r : InputReader) (last : LastEdges) → (last.fault ≡ None → fault_read r ≡ None) → SaysAll r.edges last → EndsInputs r last
inputs_end r last kept says = λ limit start now input given h. record {
  edges = given ++ last.edges.items;
  fault = last.fault;
  own = own input h.text given h.known;
  kept = kept;
  says = λ ends.
      at_once (λ t. SaysWhole limit input (given ++ last.edges.items) last.fault t) start now h.text h.taken (λ more is.
      let empty : fault_read r ≡ None → more ≡ [] = λ none. at_end now more is (ends none) in
      record {
        says = (says input h.text more given h.known empty).0;
        short = λ none. omega (arith, h.room, ap length (empty (kept none)), length-append h.text more);
      });
  follows = (refl, refl);
}
  where
    own : (input : TraceInput) (text : List ℕ) (given : List Edge) → HasEdges input text given r.edges → IfSome last.fault IsOwnFault
    own input text given h = (says input text [] given h (λ e. refl)).1

    at_end : (now : Option (List ℕ)) (more : List ℕ) → now ≡ Some more → IsAtEnd now → more ≡ []
    at_end None more is e = absurd (cc)
    at_end (Some ys) more is e = let k : ys ≡ more = cc in sym k ∙ e

pub inputs_end_on : (r : InputReader) {E : Type 0} (v : Result LastEdges E) → IfOk v (λ last. last.fault ≡ None → fault_read r ≡ None) → IfOk v (λ last. SaysAll r.edges last)
    → IfOk v (λ last. EndsInputs r last)
inputs_end_on r (Ok last) kept says = inputs_end r last kept says
inputs_end_on r (Err e) kept says = tt

-- what follows for whoever takes the last edges too
pub reading_ends : (r : InputReader) (last : LastEdges) (taken : List Edge → Type 0) (follows : List Edge → Option CliFault → Type 0) → EndsInputs r last
    → ((given : List Edge) → taken given → follows (given ++ last.edges.items) last.fault) → EndsReading r taken follows
reading_ends r last taken follows ends after = λ limit start now input given h t.
    let e = ends limit start now input given h in
    record {
      edges = e.edges;
      fault = e.fault;
      own = e.own;
      kept = e.kept;
      says = e.says;
      follows = rw (e.follows.0, e.follows.1) (after given t);
    }

-- before the first block
pub first_taken : (limit : ℕ) (start : Option (List ℕ)) (input : TraceInput) (r : InputReader) (taken : List Edge → Type 0) → HasReadEdges limit start start input [] r → edges_read r ≡ [] → taken []
    → HasTakenAll limit start start input r taken
first_taken limit start input r taken read none t = record { given = []; read = read; taken = subst taken (sym none) t }

-- a block was read
pub before_taken : (limit : ℕ) (start a b : Option (List ℕ)) (input : TraceInput) (r s : InputReader) (taken : List Edge → Type 0) → HasTakenAll limit start a input r taken → ReadsEdges a b r s
    → HasTakenBefore limit start b input s taken
before_taken limit start a b input r s taken h reads = record { given = h.given ++ edges_read r; read = reads limit start input h.given h.read; taken = h.taken }

-- and its edges were taken
pub all_taken : (limit : ℕ) (start now : Option (List ℕ)) (input : TraceInput) (r : InputReader) (taken more : List Edge → Type 0) → HasTakenBefore limit start now input r taken
    → ((given : List Edge) → taken given → more (given ++ edges_read r)) → HasTakenAll limit start now input r more
all_taken limit start now input r taken more h takes = record { given = h.given; read = h.read; taken = takes h.given h.taken }

-- Laws.

-- the edges that a reader has given come first
pub edges_first : GivenSamplesComeFirst → EachTextSaysSamples → MadeEdgesComeFirst → ReadEdgesComeFirst
edges_first samples_first some made_first = λ limit start now input given r h.
    at_once (λ t. SaysFirst input t (given ++ edges_read r)) start now h.text h.taken (λ more is. by input h.text (given ++ edges_read r) r.edges.reader r.edges.maker r.edges.fault h.known more)
  where
    by : (input : TraceInput) (text : List ℕ) (edges : List Edge) (r : SourceReader) (m : EdgeMaker) (fault : Option CliFault) → HasReachedOr input text edges r m fault → (more : List ℕ)
        → SaysFirst input (text ++ more) edges
    by input text edges r m None h more =
        let says = some input (text ++ more) in
        let first = samples_first input text more h.samples says.0 says.1 r h.given says.2 in
        let made = made_first input h.samples first.0 edges m h.made in
        record {
          edges = edges_made input.source input.start input.pulse says.0;
          fault = says.1;
          says = record { samples = says.0; are_samples = says.2; are_edges = refl };
          later = made.0;
          first = ap (λ l. edges_made input.source input.start input.pulse l) first.1 ∙ made.1;
        }
    by input text edges r m (Some f) h more =
        let k = h.1 more in
        let made = made_first input k.samples [] edges m k.made in
        record {
          edges = edges_made input.source input.start input.pulse k.samples;
          fault = Some f;
          says = record { samples = k.samples; are_samples = k.says; are_edges = refl };
          later = made.0;
          first = ap (λ l. edges_made input.source input.start input.pulse l) (sym (append-nil k.samples)) ∙ made.1;
        }

-- each text says edges
pub each_says_edges : EachTextSaysSamples → EachTextSaysEdges
each_says_edges some = λ input text.
    let says = some input text in
    let edges = edges_made input.source input.start input.pulse says.0 in
    record { edges = edges; fault = says.1; says = record { samples = says.0; are_samples = says.2; are_edges = refl }; later = edges; first = refl }
