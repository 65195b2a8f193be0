-- The settings by their parts.
use Rattle.std.proofs.Common.{ℕ, ◌≡◌, Bool, List, Option, codes, is_some, refl}
use Rattle.scan_settings.specs.declared.settings.Plan.{Plan}
use Rattle.scan_settings.specs.Options.{page, margin, workers, depth, mask, word_min, word_max, context, spool_limit}
use Rattle.scan_settings.specs.Settings.{given_at, number_given, values_given, value_given, scanners_given, plan_given, settings_given}

pub plan_by : (words : List (List ℕ)) (options : List ℕ) (on deep masked least most around : ℕ) (keywords patterns : List (List ℕ)) →
    on ≡ scanners_given words options → deep ≡ number_given words options (codes "--depth") depth →
    masked ≡ number_given words options (codes "--xor") mask → least ≡ number_given words options (codes "--word-min") word_min →
    most ≡ number_given words options (codes "--word-max") word_max → around ≡ number_given words options (codes "--context") context →
    keywords ≡ values_given words options (codes "--find") → patterns ≡ values_given words options (codes "--pattern") →
    record { scanners = on; depth = deep; mask = masked; word_min = least; word_max = most; context = around; keywords = keywords; patterns = patterns }
    ≡ plan_given words options
unfolding plan_given
plan_by words options on deep masked least most around keywords patterns a b c d e f g h = rw (a, b, c, d, e, f, g, h) refl

pub settings_by : (words : List (List ℕ)) (options : List ℕ) (size behind count limit : ℕ) (plan : Plan) (stop alert : Option (List ℕ)) (log : Bool) →
    size ≡ number_given words options (codes "--page") page → behind ≡ number_given words options (codes "--margin") margin →
    count ≡ number_given words options (codes "--workers") workers → plan ≡ plan_given words options →
    stop ≡ value_given words options (codes "--stop") → alert ≡ value_given words options (codes "--alert") →
    limit ≡ number_given words options (codes "--spool-limit") spool_limit → log ≡ is_some (given_at words options (codes "--log")) →
    record { page = size; margin = behind; workers = count; plan = plan; stop = stop; alert = alert; limit = limit; with_log = log }
    ≡ settings_given words options
unfolding settings_given
settings_by words options size behind count limit plan stop alert log a b c d e f g h = rw (a, b, c, d, e, f, g, h) refl
