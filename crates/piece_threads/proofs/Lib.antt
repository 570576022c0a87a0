mod BundleLemmas
