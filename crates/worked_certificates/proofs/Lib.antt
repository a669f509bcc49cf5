mod DownFacts
