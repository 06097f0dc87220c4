-- The fact that stands for what lies past a list's end, and facts with other marks or none (01, "What changes shape"). Assumes nothing.
use Rattle.std.specs.Prelude.{Bool, false, List, map, ℕ, get_or}
use Rattle.facts.specs.declared.Fact.{Fact}

-- what lies past a list's end
abbrev pub no_fact : Fact
no_fact =
    record {
      rec = 0;
      class = 0;
      org = 0;
      wrote = 0;
      from = 0;
      def = 0;
      use0 = 0;
      use1 = 0;
      more = false;
      len = false;
      layout = false;
      creates = false;
      barrier = false;
      suspends = false;
      member = false;
    }

-- a fact with the mark b, and all else as it was
abbrev pub marked : Fact → Bool → Fact
marked f b =
    record {
      rec = f.rec;
      class = f.class;
      org = f.org;
      wrote = f.wrote;
      from = f.from;
      def = f.def;
      use0 = f.use0;
      use1 = f.use1;
      more = f.more;
      len = f.len;
      layout = f.layout;
      creates = f.creates;
      barrier = f.barrier;
      suspends = f.suspends;
      member = b;
    }

-- a fact with its mark cleared
abbrev pub cleared : Fact → Fact
cleared f = marked f false

-- ---- a list of facts

-- the fact of position p
abbrev pub fact_in : List Fact → ℕ → Fact
fact_in fs p = get_or fs p no_fact

-- the facts without their marks
unfoldable pub bare : List Fact → List Fact
bare fs = map cleared fs
